-- A scenario with names in place of numbers: the draft of which it is the scenario.
use Rattle.std.specs.Prelude.{ℕ, ◌+◌, ◌==◌, pos, if◌then◌else◌, List, map, Option, Some, None}
use Rattle.convoy_scenario.specs.declared.sender.Sender.{Sender}
use Rattle.convoy_scenario.specs.declared.sender.Sender.TheVariants.{Client, Group}
use Rattle.convoy_draft.specs.Draft.{Draft, DraftLink, DraftMessage}
use Rattle.convoy_scenario.specs.Scenario.{Scenario, Link, Message, message_at, group_name_at, place_name_at}
use Rattle.convoy_draft.specs.Names.{client_word}

-- a sender by name, which is none for a client of no named place
abbrev pub sender_name : Scenario → Sender → Option (List ℕ)
sender_name scenario (Client p) = if p == 0 then None else Some (place_name_at scenario p)
sender_name scenario (Group g) = Some (group_name_at scenario g)

-- the word for a sender
abbrev pub sender_word : Scenario → Sender → List ℕ
sender_word scenario (Client p) = if p == 0 then client_word else place_name_at scenario p
sender_word scenario (Group g) = group_name_at scenario g

-- a message by names
abbrev pub draft_message : Scenario → Message → DraftMessage
draft_message scenario message = record {
  name = message.name;
  sender = sender_name scenario message.sender;
  to = map (group_name_at scenario) message.destinations;
  at = pos message.at;
  until = pos (message.at + message.longest_wait);
}

-- a link by names
abbrev pub draft_link : Scenario → Link → DraftLink
draft_link scenario link = record {
  sender = sender_name scenario link.sender;
  to = group_name_at scenario link.to;
  least = pos link.least;
  most = pos link.most;
  stamps = link.stamps;
}

-- a scenario by names: what is written of it
abbrev pub draft_for : Scenario → Draft
draft_for scenario = record {
  time = scenario.time;
  tick = scenario.tick;
  delay = pos scenario.delay;
  groups = scenario.groups;
  places = scenario.places;
  links = map (draft_link scenario) scenario.links;
  messages = map (draft_message scenario) scenario.multicasts;
  target_message = (message_at scenario scenario.target_message).name;
  target_group = group_name_at scenario scenario.target_group;
}
