use Rattle.convoy_scenario.proofs.RoomLemmas.{still_room}
use Rattle.convoy_scenario.proofs.widened_laws.still_targets_have_room.Goals as goal

pub returns : goal.returns
returns c = still_room
