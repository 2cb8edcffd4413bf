use Rattle.std.proofs.Common.{◌≡◌, drop}
use Rattle.convoy_packets.specs.Assignment.{range_of}
use Rattle.convoy_packets.specs.Packets.{packets_of}
use Rattle.convoy_outage_runs.specs.Compressed.{shortest_travel}
use Rattle.convoy_outage_runs.proofs.Shortest.{shortest_of}
use Rattle.convoy_outage_runs.proofs.compressing.shortest_travel.Given as goal

-- with the packets that are left it is the least of all
abbrev pub invariant-loop-place : goal.invariant-loop-place
invariant-loop-place l = shortest_of (range_of l.instance) l.shortest (drop l.place (packets_of l.instance)) ≡ shortest_travel l.instance
