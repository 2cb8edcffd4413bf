use Rattle.std.proofs.Common.{◌≡◌, take}
use Rattle.std.specs.List.{list_any}
use Rattle.convoy_packets.specs.Packets.{packets_of}
use Rattle.convoy_budget.specs.Ways.{goes_on}
use Rattle.convoy_budget.proofs.ways.is_travelled.Given as goal

-- whether one of the packets so far travels there
abbrev pub invariant-loop-place : goal.invariant-loop-place
invariant-loop-place l = l.travelled ≡ list_any (goes_on l.instance l.way) (take l.place (packets_of l.instance))
