-- The ways of a scenario on which packets travel.
use Rattle.std.specs.Prelude.{ℕ, ◌+◌, ◌==◌, Bool, ◌&&◌, not, if◌then◌else◌, List, [], ◌∷◌, ◌++◌, filter, length}
use Rattle.std.specs.List.{flat_map, list_any, range_with_len}
use Rattle.convoy_scenario.specs.declared.sender.Sender.{Sender}
use Rattle.convoy_scenario.specs.declared.sender.Sender.TheVariants.{Client, Group}
use Rattle.convoy_scenario.specs.Scenario.{Scenario, is_same_sender, takes_time}
use Rattle.convoy_packets.specs.declared.packet.Packet.{Packet}
use Rattle.convoy_packets.specs.Assignment.{receiver_of, sender_of}
use Rattle.convoy_packets.specs.Packets.{is_wait, packets_of}
use Rattle.convoy_budget.specs.declared.kinds.Way.{Way}

-- the numbers of the groups
abbrev pub group_numbers : Scenario → List ℕ
group_numbers scenario = range_with_len 0 (length scenario.groups)

-- the places at which clients are: that which has no name, and those that have one
abbrev pub client_places : Scenario → List ℕ
client_places scenario = range_with_len 0 (length scenario.places + 1)

-- the way from the sender to the group, if it takes time
abbrev pub way_to : Scenario → Sender → ℕ → List Way
way_to scenario sender to = if takes_time scenario sender to then record { sender = sender; to = to } ∷ [] else []

-- the ways from a sender, by the group that they lead to
abbrev pub ways_from : Scenario → Sender → List Way
ways_from scenario sender = flat_map (way_to scenario sender) (group_numbers scenario)

-- all ways, those of clients first, by their places, and then by the group that sends
abbrev pub all_ways : Scenario → List Way
all_ways scenario =
    flat_map (λ p. ways_from scenario (Client p)) (client_places scenario) ++ flat_map (λ g. ways_from scenario (Group g)) (group_numbers scenario)

-- the packet travels on the way
abbrev pub goes_on : Scenario → Way → Packet → Bool
goes_on scenario way packet = not (is_wait packet) && is_same_sender way.sender (sender_of scenario packet) && (way.to == receiver_of packet)

-- some packet does
abbrev pub is_travelled : Scenario → Way → Bool
is_travelled scenario way = list_any (goes_on scenario way) (packets_of scenario)

-- the ways on which packets travel, in their order
abbrev pub ways_of : Scenario → List Way
ways_of scenario = filter (is_travelled scenario) (all_ways scenario)

-- the two are one way
abbrev pub is_same_way : Way → Way → Bool
is_same_way way other = is_same_sender way.sender other.sender && (way.to == other.to)
