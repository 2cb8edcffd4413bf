use Rattle.std.proofs.Common.{◌≡◌, ◌++◌, take}
use Rattle.std.specs.List.{flat_map}
use Rattle.convoy_scenario.specs.Scenario.{message_at}
use Rattle.convoy_packets.specs.Packets.{propose_packets}
use Rattle.convoy_packets.proofs.listing.list_proposals.Given as goal

abbrev pub invariant-loop-from : goal.invariant-loop-from
invariant-loop-from l =
    l.packets.items
    ≡ l.initial.packets.items
    ++ flat_map (propose_packets l.scenario l.message (message_at l.scenario l.message)) (take l.from-index l.from-items)
