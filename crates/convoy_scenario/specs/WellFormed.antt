-- When a scenario is well formed: its limits, its names and its references.
use Rattle.std.specs.Prelude.{◌≡◌, ℕ, ◌<◌, ◌≤◌, ◌==◌, Bool, true, false, ◌&&◌, ◌||◌, not, nat_lt, List, [], ◌∷◌, length, Option, Some, None, IsTrue, All}
use Rattle.std.specs.List.{IsDistinct}
use Rattle.std.specs.List.Sorted.{IsStrictlyIncreasing}
use Rattle.std.specs.Str.{bytes_eq}
use Rattle.convoy_scenario.specs.declared.sender.Sender.{Sender}
use Rattle.convoy_scenario.specs.declared.sender.Sender.TheVariants.{Client, Group}
use Rattle.convoy_draft.specs.declared.limits.TheConstants.{GREATEST_AT, GREATEST_DELAY, GREATEST_WHOLE_DELAY, LONGEST_WAIT, MOST_GROUPS, MOST_MULTICASTS, MOST_PLACES}
use Rattle.convoy_draft.specs.declared.time.Time.TheVariants.{Ticks}
use Rattle.convoy_draft.specs.Limits.{is_tick}
use Rattle.convoy_draft.specs.Checks.{is_among}
use Rattle.convoy_draft.specs.Names.{is_name, is_group_name}
use Rattle.convoy_scenario.specs.Room.{HasRoom}
use Rattle.convoy_scenario.specs.Scenario.{Link, Message, Scenario, message_at, is_addressed, is_same_sender}

-- the sender is one of so many groups, or a client: at one of so many places, or at none that has a name
abbrev pub IsSender : ℕ → ℕ → Sender → Type 0
IsSender groups places (Client p) = p ≤ places
IsSender groups places (Group g) = g < groups

-- a message among so many groups and places: it has a name, a first tick and a longest wait within the limits, and goes to one group or more, each named once, in the order of their numbers
pub record IsMulticast (groups places : ℕ) (message : Message) : Type 0 where
  pub name : IsTrue (is_name message.name)
  pub sender : IsSender groups places message.sender
  pub destinations : 0 < length message.destinations
  pub ascending : IsStrictlyIncreasing message.destinations
  pub known : All (λ g. g < groups) message.destinations
  pub at : message.at ≤ GREATEST_AT
  pub wait : message.longest_wait ≤ LONGEST_WAIT

-- the link says what holds without it: it leads to another place, and has the range of what has no link: 1 to D
abbrev pub is_whole : ℕ → Link → Bool
is_whole delay link = (link.least == 1) && (link.most == delay) && not (is_same_sender link.sender (Group link.to))

-- a link among so many groups and places, where D is so much: from a client or a group to a group, itself perhaps, with a range within 1 to D, which to another place is not the whole of it; only one from a group to itself is for stamps, too
pub record IsLink (groups places delay : ℕ) (link : Link) : Type 0 where
  pub sender : IsSender groups places link.sender
  pub to : link.to < groups
  pub low : 1 ≤ link.least
  pub ordered : link.least ≤ link.most
  pub high : link.most ≤ delay
  pub partial : IsTrue (not (is_whole delay link))
  pub stamps : IsTrue (not link.stamps || is_same_sender link.sender (Group link.to))

-- the one sender comes before the other: first clients, by their places, and then groups, by their numbers
abbrev pub is_sender_before : Sender → Sender → Bool
is_sender_before (Client p) (Client q) = nat_lt p q
is_sender_before (Client p) (Group h) = true
is_sender_before (Group g) (Client q) = false
is_sender_before (Group g) (Group h) = nat_lt g h

-- the one link comes before the other: by sender, and then by the group that it leads to
abbrev pub is_before : Link → Link → Bool
is_before link other =
    is_sender_before link.sender other.sender || (is_same_sender link.sender other.sender && nat_lt link.to other.to)

-- the link comes after the one before it, if there is one
abbrev pub follows : Option Link → Link → Bool
follows None link = true
follows (Some before) link = is_before before link

-- each of the links comes after the one before it
abbrev pub ascend_after : Option Link → List Link → Bool
ascend_after before [] = true
ascend_after before (link ∷ links) = follows before link && ascend_after (Some link) links

-- the limits hold, names are names and differ, links stand in their order, all that is referred to is there, and the target has room to wait
pub record IsScenario (scenario : Scenario) : Type 0 where
  pub delay_low : 1 ≤ scenario.delay
  pub delay_high : scenario.delay ≤ GREATEST_DELAY
  pub delay_whole : scenario.time ≡ Ticks → scenario.delay ≤ GREATEST_WHOLE_DELAY
  pub tick : IsTrue (is_tick scenario.time scenario.tick)
  pub groups_low : 1 ≤ length scenario.groups
  pub groups_high : length scenario.groups ≤ MOST_GROUPS
  pub places_high : length scenario.places ≤ MOST_PLACES
  pub multicasts_low : 1 ≤ length scenario.multicasts
  pub multicasts_high : length scenario.multicasts ≤ MOST_MULTICASTS
  pub group_names : All (λ name. IsTrue (is_group_name name)) scenario.groups
  pub group_names_differ : IsDistinct bytes_eq scenario.groups
  pub place_names : All (λ name. IsTrue (is_group_name name)) scenario.places
  pub place_names_differ : IsDistinct bytes_eq scenario.places
  pub places_apart : All (λ name. is_among name scenario.groups ≡ false) scenario.places
  pub message_names_differ : IsDistinct (λ a b. bytes_eq a.name b.name) scenario.multicasts
  pub links : All (IsLink (length scenario.groups) (length scenario.places) scenario.delay) scenario.links
  pub ascending : IsTrue (ascend_after None scenario.links)
  pub messages : All (IsMulticast (length scenario.groups) (length scenario.places)) scenario.multicasts
  pub target : scenario.target_message < length scenario.multicasts
  pub addressed : IsTrue (is_addressed (message_at scenario scenario.target_message) scenario.target_group)
  pub room : HasRoom scenario
