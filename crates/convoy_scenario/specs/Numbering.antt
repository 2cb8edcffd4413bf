-- The scenario of a draft, with numbers in place of names. Each word here has a value for any draft; only where all the checks hold do they mean what they say.
use Rattle.std.specs.Prelude.{ℕ, ◌+◌, ◌-◌, ◌&&◌, if◌then◌else◌, List, [], ◌∷◌, map, length, filter, Option, Some, None, unwrap_or, position, Result, Ok, Err}
use Rattle.std.specs.List.{range_with_len}
use Rattle.std.specs.Result.{result_and}
use Rattle.std.specs.Str.{bytes_eq}
use Rattle.std.proofs.Common.{get_or}
use Rattle.convoy_draft.specs.declared.fault.ScenarioFault.{ScenarioFault}
use Rattle.convoy_draft.specs.declared.fault.ScenarioFault.TheVariants.{OverLimit}
use Rattle.convoy_draft.specs.declared.fault.Limit.TheVariants.{Until}
use Rattle.convoy_draft.specs.declared.limits.TheConstants.{GREATEST_AT, GREATEST_DELAY, GREATEST_UNTIL}
use Rattle.convoy_scenario.specs.declared.sender.Sender.{Sender}
use Rattle.convoy_scenario.specs.declared.sender.Sender.TheVariants.{Client, Group}
use Rattle.convoy_scenario.specs.Room.{has_room}
use Rattle.convoy_scenario.specs.Scenario.{Link, Message, Scenario, is_same_sender}
use Rattle.convoy_draft.specs.Draft.{Draft, DraftLink, DraftMessage}
use Rattle.convoy_draft.specs.Checks.{is_among, ticks, checks, judge}
use Rattle.convoy_scenario.specs.WellFormed.{is_before, is_whole}

-- the place of the name, or 0 where it is not there
abbrev pub place : List ℕ → List (List ℕ) → ℕ
place name names = unwrap_or (position (bytes_eq name) names) 0

-- the place of the first message of the name, or 0 where there is none
abbrev pub message_place : List ℕ → List DraftMessage → ℕ
message_place name messages = unwrap_or (position (λ message. bytes_eq name message.name) messages) 0

-- the sender that is written so, among these groups and places
abbrev pub sender_of : List (List ℕ) → List (List ℕ) → Option (List ℕ) → Sender
sender_of groups places None = Client 0
sender_of groups places (Some name) = if is_among name groups then Group (place name groups) else Client (place name places + 1)

-- the numbers of the groups that are named, ascending
abbrev pub numbers_of : List (List ℕ) → List (List ℕ) → List ℕ
numbers_of groups named = filter (λ g. is_among (get_or groups g []) named) (range_with_len 0 (length groups))

-- a message with numbers
abbrev pub message_of : List (List ℕ) → List (List ℕ) → DraftMessage → Message
message_of groups places message = record {
  name = message.name;
  sender = sender_of groups places message.sender;
  destinations = numbers_of groups message.to;
  at = ticks GREATEST_AT message.at;
  longest_wait = ticks GREATEST_UNTIL message.until - ticks GREATEST_AT message.at;
}

-- a link with numbers; only one from a group to itself is for stamps, too
abbrev pub link_of : List (List ℕ) → List (List ℕ) → DraftLink → Link
link_of groups places link = record {
  sender = sender_of groups places link.sender;
  to = place link.to groups;
  least = ticks GREATEST_DELAY link.least;
  most = ticks GREATEST_DELAY link.most;
  stamps = link.stamps && is_same_sender (sender_of groups places link.sender) (Group (place link.to groups));
}

-- a link put among others that ascend; of two between the same places the one that is there stays
abbrev pub put : Link → List Link → List Link
put link [] = link ∷ []
put link (other ∷ others) =
    if is_before other link then other ∷ put link others
    else if is_before link other then link ∷ other ∷ others
    else other ∷ others

-- the links, ascending, but for those between two places with the whole range
abbrev pub in_order : ℕ → List Link → List Link
in_order delay [] = []
in_order delay (link ∷ links) = if is_whole delay link then in_order delay links else put link (in_order delay links)

-- D of a scenario as it is written
abbrev pub delay_of_draft : Draft → ℕ
delay_of_draft draft = ticks GREATEST_DELAY draft.delay

-- the links of a scenario as it is written, with numbers
abbrev pub links_of_draft : Draft → List Link
links_of_draft draft = map (link_of draft.groups draft.places) draft.links

-- a scenario with numbers
abbrev pub scenario_of : Draft → Scenario
scenario_of draft = record {
  time = draft.time;
  tick = draft.tick;
  delay = delay_of_draft draft;
  groups = draft.groups;
  places = draft.places;
  links = in_order (delay_of_draft draft) (links_of_draft draft);
  multicasts = map (message_of draft.groups draft.places) draft.messages;
  target_message = message_place draft.target_message draft.messages;
  target_group = place draft.target_group draft.groups;
}

-- the scenario, or the fault that its target's window leaves no room
abbrev pub with_room : Scenario → Result Scenario ScenarioFault
with_room scenario = if has_room scenario then Ok scenario else Err (OverLimit Until)

-- the scenario of a draft, or the fault of the first check that does not hold, of which room is the last
abbrev pub scenario_of_draft : Draft → Result Scenario ScenarioFault
scenario_of_draft draft = result_and (judge (checks draft)) (with_room (scenario_of draft))
