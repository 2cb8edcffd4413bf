use Rattle.convoy_survey.proofs.AroundRows.{has_each_target}
use Rattle.convoy_survey.proofs.survey_laws.around_has_each_target.Goals as goal

pub returns : goal.returns
returns c = has_each_target c.around_is_scenario.ensures c.still_targets_have_room.ensures c.room_is_decided.ensures
