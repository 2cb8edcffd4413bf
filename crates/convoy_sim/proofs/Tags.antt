-- A tag owns nothing, so it may go to any thread, and any thread may share it.
use denote.RattleType.{RattleType}
use denote.Param.Send.{IsSend, IsSync, part_keyless}
use Rattle.convoy_sim.specs.contracts.tag.Tag.{the_row}

pub tag_send : (T : RattleType) → IsSend (the_row T)
tag_send T = record { owned = λ d vs. ((λ vss. (tt, ((λ uss. (tt, tt)), tt))), tt); leaving = λ k f vs. tt }

pub tag_sync : (T : RattleType) → IsSync (the_row T)
tag_sync T = record { shared = λ d b o κ q. part_keyless (the_row T) (tag_send T) q d b o }
