use Rattle.std.proofs.Common.{◌≡◌, ◌++◌, drop}
use Rattle.convoy_packets.specs.OrderLists.{marks_of, ranks_at}
use Rattle.convoy_packets.proofs.order.Order.ranks.Given as goal

abbrev pub invariant-loop-place : goal.invariant-loop-place
invariant-loop-place l =
    l.ranks.items ++ ranks_at (drop l.place (marks_of l.scenario)) (drop l.place l.arrivals) (drop l.place l.commits)
    ≡ ranks_at (marks_of l.scenario) l.arrivals l.commits
