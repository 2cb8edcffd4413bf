use Rattle.convoy_causes.proofs.MovedCauses.{targets_have_room}
use Rattle.convoy_causes.proofs.cause_laws.targets_have_room.Goals as goal

pub returns : goal.returns
returns c = targets_have_room c.widened_is_scenario.ensures c.room_is_decided.ensures
