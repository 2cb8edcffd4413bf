use Rattle.convoy_scenario.proofs.RoomLemmas.{room_decided}
use Rattle.convoy_scenario.proofs.widened_laws.room_is_decided.Goals as goal

pub returns : goal.returns
returns c = room_decided
