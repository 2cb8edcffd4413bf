use Rattle.std.proofs.Common.{◌≡◌, ◌++◌, drop}
use Rattle.std.specs.Result.{result_map_both}
use Rattle.convoy_packets.specs.Given.{delays_given}
use Rattle.convoy_packets.proofs.schedule.delays_given.Given as goal

abbrev pub invariant-loop-i : goal.invariant-loop-i
invariant-loop-i l =
    delays_given 0 l.ranges l.list
    ≡ result_map_both (λ rest. l.delays.items ++ rest) (λ fault. fault) (delays_given l.i (drop l.i l.ranges) (drop l.i l.list))
