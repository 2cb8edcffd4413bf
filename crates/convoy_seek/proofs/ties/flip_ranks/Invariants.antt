use Rattle.convoy_packets.specs.OrderLists.{AreSmall}
use Rattle.convoy_seek.proofs.ties.flip_ranks.Given as goal

abbrev pub invariant-loop : goal.invariant-loop
invariant-loop l = AreSmall l.ranks.items
