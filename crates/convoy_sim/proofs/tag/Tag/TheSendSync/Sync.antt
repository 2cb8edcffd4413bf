use denote.RattleType.{RattleType}
use denote.Param.Send.{IsSync}
use Rattle.convoy_sim.proofs.Tags.{tag_sync}
use Rattle.convoy_sim.specs.contracts.tag.Tag.{the_row}

pub sync : (T : RattleType) → IsSync (the_row T)
sync = tag_sync
