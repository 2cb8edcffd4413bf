use Rattle.std.proofs.Common.{◌≡◌, take}
use Rattle.std.specs.List.{flat_map, enumerate_from}
use Rattle.convoy_packets.specs.Packets.{message_packets}
use Rattle.convoy_packets.proofs.listing.list_packets.Given as goal

abbrev pub invariant-loop-message : goal.invariant-loop-message
invariant-loop-message l =
    l.packets.items
    ≡ flat_map (λ p. message_packets l.scenario p.0 p.1) (take l.message (enumerate_from 0 l.scenario.multicasts))
