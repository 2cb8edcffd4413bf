use Rattle.std.proofs.Common.{◌≡◌, map, take}
use Rattle.std.specs.List.{All}
use Rattle.convoy_packets.specs.Assignment.{range_of}
use Rattle.convoy_packets.specs.Table.{IsRange}
use Rattle.convoy_packets.proofs.table.list_ranges.Given as goal

abbrev pub invariant-loop-packet : goal.invariant-loop-packet
invariant-loop-packet l =
    (l.ranges.items ≡ map (range_of l.scenario) (take l.packet-index l.packets)) × All IsRange l.ranges.items
