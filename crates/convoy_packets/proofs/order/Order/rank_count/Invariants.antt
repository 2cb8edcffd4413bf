use Rattle.std.proofs.Common.{◌≡◌, ◌+◌, ◌*◌, ◌≤◌, drop}
use Rattle.convoy_packets.specs.OrderLists.{marks_of, rank_count, rank_count_at}
use Rattle.convoy_packets.proofs.order.Order.rank_count.Given as goal

abbrev pub invariant-loop-place : goal.invariant-loop-place
invariant-loop-place l = record {
  so_far : l.count + rank_count_at (drop l.place (marks_of l.scenario)) ≡ rank_count l.scenario;
  few : l.count ≤ 2 * l.place;
}
