-- Scenarios that differ from another in one thing.
use Rattle.std.specs.Prelude.{ℕ, ◌+◌, ◌==◌, Bool, false, ◌&&◌, not, nat_lt, if◌then◌else◌, List, [], ◌∷◌, ◌++◌, length, map, Result}
use Rattle.std.specs.List.{flat_map, list_any, range_with_len}
use Rattle.convoy_draft.specs.declared.fault.ScenarioFault.{ScenarioFault}
use Rattle.convoy_scenario.specs.declared.sender.Sender.{Sender}
use Rattle.convoy_scenario.specs.declared.sender.Sender.TheVariants.{Client, Group}
use Rattle.convoy_draft.specs.Draft.{Draft, DraftLink, DraftMessage}
use Rattle.convoy_scenario.specs.Naming.{draft_for, draft_link, draft_message}
use Rattle.convoy_scenario.specs.Numbering.{scenario_of_draft}
use Rattle.convoy_scenario.specs.Scenario.{Link, Scenario, is_same_sender, message_at, message_numbers, own_stamps_take_time, range_between}
use Rattle.convoy_packets.specs.declared.packet.Packet.{Packet}
use Rattle.convoy_packets.specs.Assignment.{receiver_of, sender_of}
use Rattle.convoy_packets.specs.Packets.{is_wait, packets_of}
use Rattle.convoy_what_if.specs.declared.kinds.Change.{Change}
use Rattle.convoy_what_if.specs.declared.kinds.Change.TheVariants.{Nothing, Without, AtLeast, AtMost}

-- the change leaves the message out
abbrev pub leaves_out : Change → ℕ → Bool
leaves_out Nothing m = false
leaves_out (Without n) m = m == n
leaves_out (AtLeast sender to) m = false
leaves_out (AtMost sender to) m = false

-- the change gives the link another range
abbrev pub narrows : Change → Link → Bool
narrows Nothing link = false
narrows (Without n) link = false
narrows (AtLeast sender to) link = is_same_sender sender link.sender && (to == link.to)
narrows (AtMost sender to) link = is_same_sender sender link.sender && (to == link.to)

-- a link on which each packet takes so long, for stamps as what goes there is in the scenario
abbrev pub fixed_link : Scenario → Sender → ℕ → ℕ → Link
fixed_link scenario sender to delay = record { sender = sender; to = to; least = delay; most = delay; stamps = own_stamps_take_time scenario sender to }

-- the link that a change brings, if it brings one
abbrev pub new_links : Scenario → Change → List Link
new_links scenario Nothing = []
new_links scenario (Without n) = []
new_links scenario (AtLeast sender to) = fixed_link scenario sender to (range_between scenario sender to).0 ∷ []
new_links scenario (AtMost sender to) = fixed_link scenario sender to (range_between scenario sender to).1 ∷ []

-- the link by names, if it stays as it is
abbrev pub links_left : Scenario → Change → Link → List DraftLink
links_left scenario change link = if narrows change link then [] else draft_link scenario link ∷ []

-- the message by names, if it stays
abbrev pub messages_left : Scenario → Change → ℕ → List DraftMessage
messages_left scenario change m = if leaves_out change m then [] else draft_message scenario (message_at scenario m) ∷ []

-- the scenario by names, without the message that is left out, and with the link that is narrowed
abbrev pub changed_draft : Scenario → Change → Draft
changed_draft scenario change = record {
  time = (draft_for scenario).time;
  tick = (draft_for scenario).tick;
  delay = (draft_for scenario).delay;
  groups = (draft_for scenario).groups;
  places = (draft_for scenario).places;
  links = flat_map (links_left scenario change) scenario.links ++ map (draft_link scenario) (new_links scenario change);
  messages = flat_map (messages_left scenario change) (message_numbers scenario);
  target_message = (draft_for scenario).target_message;
  target_group = (draft_for scenario).target_group;
}

-- the scenario that is changed so
abbrev pub changed : Scenario → Change → Result Scenario ScenarioFault
changed scenario change = scenario_of_draft (changed_draft scenario change)

-- the message may be left out: it is not the one of which the latency is asked
abbrev pub message_changes : Scenario → ℕ → List Change
message_changes scenario m = if m == scenario.target_message then [] else Without m ∷ []

-- the packet travels from the one to the other
abbrev pub goes_between : Scenario → Sender → ℕ → Packet → Bool
goes_between scenario sender to packet = not (is_wait packet) && is_same_sender sender (sender_of scenario packet) && (to == receiver_of packet)

-- some packet goes from the one to the other, and may take longer than its least
abbrev pub can_narrow : Scenario → Sender → ℕ → Bool
can_narrow scenario sender to =
    nat_lt (range_between scenario sender to).0 (range_between scenario sender to).1
    && list_any (goes_between scenario sender to) (packets_of scenario)

-- the link may be narrowed to its least and to its most
abbrev pub link_changes : Scenario → Sender → ℕ → List Change
link_changes scenario sender to =
    if can_narrow scenario sender to then AtLeast sender to ∷ AtMost sender to ∷ [] else []

-- the numbers of the groups
abbrev pub group_numbers : Scenario → List ℕ
group_numbers scenario = range_with_len 0 (length scenario.groups)

-- the places at which clients are: that which has no name, and those that have one
abbrev pub client_places : Scenario → List ℕ
client_places scenario = range_with_len 0 (length scenario.places + 1)

-- the changes of the links that lead from a sender, by the group that they lead to
abbrev pub sender_changes : Scenario → Sender → List Change
sender_changes scenario sender = flat_map (link_changes scenario sender) (group_numbers scenario)

-- all changes: none, then each other message left out, and then each link narrowed, those of clients first, by their places
abbrev pub changes_of : Scenario → List Change
changes_of scenario =
    Nothing ∷ flat_map (message_changes scenario) (message_numbers scenario)
    ++ (flat_map (λ p. sender_changes scenario (Client p)) (client_places scenario) ++ flat_map (λ g. sender_changes scenario (Group g)) (group_numbers scenario))
