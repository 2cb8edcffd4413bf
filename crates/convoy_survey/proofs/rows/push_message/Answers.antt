use Rattle.convoy_survey.proofs.rows.push_message.Goals as goal

pub push_target-requires-clause-room : goal.push_target-requires-clause-room
push_target-requires-clause-room c = c.may_be_target.ensures.room _ c.if-not-may_be_target.false
