use Rattle.std.proofs.Common.{◌≡◌, ◌++◌, map, take}
use Rattle.std.specs.List.{filter}
use Rattle.convoy_scenario.specs.Scenario.{message_at, takes_time}
use Rattle.convoy_packets.specs.declared.packet.Packet.TheVariants.{Multicast}
use Rattle.convoy_packets.proofs.listing.list_multicasts.Given as goal

abbrev pub invariant-loop-to : goal.invariant-loop-to
invariant-loop-to l =
    l.packets.items
    ≡ l.initial.packets.items
    ++ map (λ g. Multicast l.message g)
    (filter (takes_time l.scenario (message_at l.scenario l.message).sender) (take l.to-index l.to-items))
