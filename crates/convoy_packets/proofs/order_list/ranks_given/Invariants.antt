use Rattle.std.proofs.Common.{◌≡◌, ◌++◌, drop}
use Rattle.std.specs.Result.{result_map_both}
use Rattle.convoy_packets.specs.OrderLists.{ranks_given}
use Rattle.convoy_packets.proofs.order_list.ranks_given.Given as goal

abbrev pub invariant-loop-i : goal.invariant-loop-i
invariant-loop-i l =
    ranks_given 0 l.list
    ≡ result_map_both (λ rest. l.ranks.items ++ rest) (λ fault. fault) (ranks_given l.i (drop l.i l.list))
