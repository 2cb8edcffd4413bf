use Rattle.convoy_packets.specs.OrderLists.{AreSmall}
use Rattle.convoy_wishes.proofs.scene.Scene.ranks.Given as goal

abbrev pub invariant-loop-message : goal.invariant-loop-message
invariant-loop-message l = AreSmall l.ranks.items
