use Rattle.std.proofs.Common.{◌≡◌, map, take}
use Rattle.convoy_packets.specs.Table.{least_of}
use Rattle.convoy_sim.specs.Times.{greatest, propose_arrive}
use Rattle.convoy_intervals.specs.Boxes.{greatest_of}
use Rattle.convoy_intervals.proofs.spans.settling_from.Given as goal

abbrev pub invariant-loop-from : goal.invariant-loop-from
invariant-loop-from l =
    (l.least ≡ greatest (map (propose_arrive l.instance (least_of l.delay_box) l.message l.group) (take l.from-index l.from-items)))
    × (l.most ≡ greatest (map (propose_arrive l.instance (greatest_of l.delay_box) l.message l.group) (take l.from-index l.from-items)))
