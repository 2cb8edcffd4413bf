use Rattle.convoy_packets.specs.OrderLists.{AreSmall}
use Rattle.convoy_wishes.proofs.scene.Scene.list_ranks.Given as goal

abbrev pub invariant-loop-group : goal.invariant-loop-group
invariant-loop-group l = AreSmall l.ranks.items
