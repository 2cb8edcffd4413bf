use denote.RattleType.{RattleType}
use denote.Param.Send.{IsSend}
use Rattle.convoy_sim.proofs.Tags.{tag_send}
use Rattle.convoy_sim.specs.contracts.tag.Tag.{the_row}

pub send : (T : RattleType) → IsSend (the_row T)
send = tag_send
