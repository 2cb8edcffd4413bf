use Rattle.std.proofs.Common.{◌≡◌, take}
use Rattle.std.specs.List.{list_any}
use Rattle.convoy_packets.specs.Packets.{packets_of}
use Rattle.convoy_what_if.specs.Changes.{goes_between}
use Rattle.convoy_what_if.proofs.listing.is_travelled.Given as goal

-- whether one of the packets so far goes there
abbrev pub invariant-loop-place : goal.invariant-loop-place
invariant-loop-place l = l.travelled ≡ list_any (goes_between l.instance l.sender l.to) (take l.place (packets_of l.instance))
