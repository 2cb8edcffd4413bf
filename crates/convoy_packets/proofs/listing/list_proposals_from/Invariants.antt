use Rattle.std.proofs.Common.{◌≡◌, ◌++◌, map, take}
use Rattle.std.specs.List.{filter}
use Rattle.convoy_scenario.specs.Scenario.{stamp_takes_time}
use Rattle.convoy_packets.specs.declared.packet.Packet.TheVariants.{Propose}
use Rattle.convoy_packets.proofs.listing.list_proposals_from.Given as goal

abbrev pub invariant-loop-to : goal.invariant-loop-to
invariant-loop-to l =
    l.packets.items
    ≡ l.initial.packets.items
    ++ map (λ g. Propose l.message l.from g) (filter (stamp_takes_time l.scenario l.from) (take l.to-index l.to-items))
