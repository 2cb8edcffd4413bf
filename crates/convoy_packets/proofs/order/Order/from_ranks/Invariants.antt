use Rattle.std.proofs.Common.{◌≡◌, drop}
use Rattle.convoy_packets.specs.OrderLists.{AreSmall, by_place, marks_of, order_of}
use Rattle.convoy_packets.proofs.OrderLists.{AreUnwritten, first_places}
use Rattle.convoy_packets.proofs.order.Order.from_ranks.Given as goal

abbrev pub invariant-loop-place : goal.invariant-loop-place
invariant-loop-place l = record {
  so_far : first_places l.place l.arrivals l.commits (by_place (drop l.place (marks_of l.scenario)) l.rest) ≡ order_of l.scenario l.ranks;
  arrivals : AreUnwritten l.place l.arrivals;
  commits : AreUnwritten l.place l.commits;
  small : AreSmall l.rest;
}
