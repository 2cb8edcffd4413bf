use Rattle.std.proofs.Common.{◌≡◌}
use Rattle.convoy_packets.specs.Assignment.{AreWithin}
use Rattle.convoy_seek.proofs.sweep.Sweep.change.Given as goal

abbrev pub invariant-loop-i : goal.invariant-loop-i
invariant-loop-i l =
    AreWithin l.table.ranges l.schedule.delays × (l.schedule.order ≡ l.fn.schedule.order)
