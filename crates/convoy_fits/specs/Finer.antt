-- The test of whether a scenario is told in fine ticks.
use Rattle.std.specs.Prelude.{ℕ, ◌+◌, ◌*◌, ◌==◌, nat_le, Bool, true, false, ◌&&◌, ◌||◌, not, List, [], ◌∷◌, length}
use Rattle.std.specs.List.{list_all}
use Rattle.std.specs.Str.{bytes_eq}
use Rattle.convoy_draft.specs.declared.time.Time.{Time}
use Rattle.convoy_draft.specs.declared.time.Time.TheVariants.{Ticks, Real}
use Rattle.convoy_scenario.specs.Scenario.{Link, Message, Scenario, is_same_sender, stamp_takes_time, takes_time}
use Rattle.convoy_packets.specs.declared.packet.Packet.{Packet}
use Rattle.convoy_packets.specs.Packets.{packets_of}
use Rattle.convoy_packets.specs.Assignment.{range_of}

-- time is real
abbrev pub is_real : Time → Bool
is_real Ticks = false
is_real Real = true

-- a message is told in fine ticks: it is issued at none but times at which it may be
abbrev pub is_finer_message : ℕ → Message → Message → Bool
is_finer_message factor message finer =
    is_same_sender finer.sender message.sender && bytes_eq finer.destinations message.destinations
    && nat_le (factor * message.at) finer.at && nat_le (finer.at + finer.longest_wait) (factor * (message.at + message.longest_wait))

abbrev pub are_finer_messages : ℕ → List Message → List Message → Bool
are_finer_messages factor [] [] = true
are_finer_messages factor [] (other ∷ others) = false
are_finer_messages factor (message ∷ messages) [] = false
are_finer_messages factor (message ∷ messages) (other ∷ others) = is_finer_message factor message other && are_finer_messages factor messages others

-- what goes by the link takes time in the scenario, too: a group that has one to itself has one there, for stamps where this one is
abbrev pub takes_too : Scenario → Link → Bool
takes_too scenario link = takes_time scenario link.sender link.to && (not link.stamps || stamp_takes_time scenario link.to link.to)

abbrev pub all_take_time : Scenario → List Link → Bool
all_take_time scenario links = list_all (takes_too scenario) links

-- the same groups have links to themselves, for messages alone or for stamps, too
abbrev pub have_same_homes : Scenario → Scenario → Bool
have_same_homes scenario finer = all_take_time scenario finer.links && all_take_time finer scenario.links

-- a packet may take no time in fine ticks that it may not take in ticks
abbrev pub has_finer_range : ℕ → Scenario → Scenario → Packet → Bool
has_finer_range factor scenario finer packet =
    nat_le (factor * (range_of scenario packet).0) (range_of finer packet).0 && nat_le (range_of finer packet).1 (factor * (range_of scenario packet).1)

-- the test of it
abbrev pub is_finer : ℕ → Scenario → Scenario → Bool
is_finer factor scenario finer =
    is_real finer.time && nat_le 1 factor && (length finer.groups == length scenario.groups)
    && (length finer.multicasts == length scenario.multicasts)
    && are_finer_messages factor scenario.multicasts finer.multicasts
    && have_same_homes scenario finer
    && list_all (has_finer_range factor scenario finer) (packets_of finer)
    && (finer.target_message == scenario.target_message) && (finer.target_group == scenario.target_group)
