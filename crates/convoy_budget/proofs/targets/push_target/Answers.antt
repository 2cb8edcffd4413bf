use Rattle.convoy_budget.proofs.targets.push_target.Goals as goal

pub push_with_deadline-requires-clause-room : goal.push_with_deadline-requires-clause-room
push_with_deadline-requires-clause-room c = c.may_be_target.ensures.room c.args.group c.if-not-may_be_target.false
