use Rattle.convoy_best_order.proofs.targets.push_target.Goals as goal

pub push_wanted-requires-clause-room : goal.push_wanted-requires-clause-room
push_wanted-requires-clause-room c = c.may_be_target.ensures.room c.args.group c.if-may_be_target.true
