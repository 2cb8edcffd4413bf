-- The rules for a scenario as it is written, in the order in which they are asked.
use Rattle.std.specs.Prelude.{ℕ, ◌+◌, ℤ, nat_abs, pos, int_le, Bool, true, false, ◌&&◌, ◌||◌, not, nat_le, if◌then◌else◌, List, [], ◌∷◌, ◌++◌, length, Option, Some, None, find, Result, Ok, Err}
use Rattle.std.specs.List.{list_all, list_any}
use Rattle.std.specs.Str.{bytes_eq}
use Rattle.convoy_draft.specs.declared.fault.ScenarioFault.{ScenarioFault}
use Rattle.convoy_draft.specs.declared.fault.ScenarioFault.TheVariants.{OverLimit, BadName, DoubleName, UnknownGroup, NoDestination, DoubleDestination, UnknownTarget, TargetNotAddressed}
use Rattle.convoy_draft.specs.declared.fault.Limit.TheVariants.{Delay, Groups, Places, Multicasts, At, Until, Link, Tick}
use Rattle.convoy_draft.specs.declared.limits.TheConstants.{GREATEST_AT, LONGEST_WAIT, MOST_GROUPS, MOST_MULTICASTS, MOST_PLACES}
use Rattle.convoy_draft.specs.Draft.{Draft, DraftLink, DraftMessage}
use Rattle.convoy_draft.specs.Limits.{greatest_delay, is_tick}
use Rattle.convoy_draft.specs.Names.{is_name, is_group_name}

-- a number from the least to the most
abbrev pub is_within : ℕ → ℕ → ℤ → Bool
is_within least most z = int_le (pos least) z && int_le z (pos most)

-- the number, or 0 where it is not from 0 to the most
abbrev pub ticks : ℕ → ℤ → ℕ
ticks most z = if is_within 0 most z then nat_abs z else 0

-- a message is issued no earlier than it may be, and at most so long after
abbrev pub has_wait : DraftMessage → Bool
has_wait message = is_within (ticks GREATEST_AT message.at) (ticks GREATEST_AT message.at + LONGEST_WAIT) message.until

-- a list of at least one and at most so many
abbrev pub is_count : {A : Type 0} → ℕ → List A → Bool
is_count most xs = nat_le 1 (length xs) && nat_le (length xs) most

-- the name is one of these
abbrev pub is_among : List ℕ → List (List ℕ) → Bool
is_among name names = list_any (bytes_eq name) names

-- no two of the names are the same
abbrev pub all_differ : List (List ℕ) → Bool
all_differ [] = true
all_differ (name ∷ rest) = not (is_among name rest) && all_differ rest

-- no two of the places have the same name, and none has that of a group
abbrev pub places_differ : List (List ℕ) → List (List ℕ) → Bool
places_differ groups places = all_differ places && list_all (λ name. not (is_among name groups)) places

-- the sender is a client of no named place, or one of the groups, or of the places
abbrev pub is_known_sender : List (List ℕ) → List (List ℕ) → Option (List ℕ) → Bool
is_known_sender groups places None = true
is_known_sender groups places (Some name) = is_among name groups || is_among name places

-- the message's sender is known, and its destinations are among the groups
abbrev pub knows : List (List ℕ) → List (List ℕ) → DraftMessage → Bool
knows groups places message = is_known_sender groups places message.sender && list_all (λ name. is_among name groups) message.to

-- one of the messages has the name
abbrev pub is_message : List ℕ → List DraftMessage → Bool
is_message name messages = list_any (λ message. bytes_eq name message.name) messages

-- no two of the messages have the same name
abbrev pub messages_differ : List DraftMessage → Bool
messages_differ [] = true
messages_differ (message ∷ rest) = not (is_message message.name rest) && messages_differ rest

-- the two are written as one sender
abbrev pub is_named_alike : Option (List ℕ) → Option (List ℕ) → Bool
is_named_alike None None = true
is_named_alike (Some name) (Some other) = bytes_eq name other
is_named_alike None (Some other) = false
is_named_alike (Some name) None = false

-- the two links lead from one sender to one group
abbrev pub is_same_pair : DraftLink → DraftLink → Bool
is_same_pair link other = is_named_alike link.sender other.sender && bytes_eq link.to other.to

-- no two of the links lead from one sender to one group
abbrev pub links_differ : List DraftLink → Bool
links_differ [] = true
links_differ (link ∷ rest) = not (list_any (is_same_pair link) rest) && links_differ rest

-- the link has a range, which is within 1 to D
abbrev pub has_range : ℤ → DraftLink → Bool
has_range delay link = int_le (pos 1) link.least && int_le link.least link.most && int_le link.most delay

-- the link's sender is known, and it leads to one of the groups
abbrev pub knows_link : List (List ℕ) → List (List ℕ) → DraftLink → Bool
knows_link groups places link = is_known_sender groups places link.sender && is_among link.to groups

-- the link leads to another place than its sender
abbrev pub leads_elsewhere : DraftLink → Bool
leads_elsewhere link = not (is_named_alike link.sender (Some link.to))

-- the first message of the target's name goes to the target's group
abbrev pub is_target_addressed : Draft → Bool
is_target_addressed draft = goes (find (λ message. bytes_eq draft.target_message message.name) draft.messages) where
  goes : Option DraftMessage → Bool
  goes None = false
  goes (Some message) = is_among draft.target_group message.to

-- a rule and the fault that is told where it does not hold
abbrev pub Check : Type 0
Check = Bool × ScenarioFault

-- the rules on numbers
abbrev pub limit_checks : Draft → List Check
limit_checks draft =
    (is_within 1 (greatest_delay draft.time) draft.delay, OverLimit Delay)
    ∷ (is_count MOST_GROUPS draft.groups, OverLimit Groups)
    ∷ (nat_le (length draft.places) MOST_PLACES, OverLimit Places)
    ∷ (is_count MOST_MULTICASTS draft.messages, OverLimit Multicasts)
    ∷ (list_all (λ message. is_within 0 GREATEST_AT message.at) draft.messages, OverLimit At)
    ∷ (list_all has_wait draft.messages, OverLimit Until)
    ∷ (list_all (has_range draft.delay) draft.links, OverLimit Link)
    ∷ (is_tick draft.time draft.tick, OverLimit Tick)
    ∷ []

-- the rules on names
abbrev pub name_checks : Draft → List Check
name_checks draft =
    (list_all is_group_name draft.groups, BadName)
    ∷ (list_all is_group_name draft.places, BadName)
    ∷ (list_all (λ message. is_name message.name) draft.messages, BadName)
    ∷ (all_differ draft.groups, DoubleName)
    ∷ (places_differ draft.groups draft.places, DoubleName)
    ∷ (messages_differ draft.messages, DoubleName)
    ∷ (links_differ draft.links, DoubleName)
    ∷ []

-- the rules on what refers to groups and messages
abbrev pub reference_checks : Draft → List Check
reference_checks draft =
    (list_all (knows draft.groups draft.places) draft.messages, UnknownGroup)
    ∷ (is_among draft.target_group draft.groups, UnknownGroup)
    ∷ (list_all (knows_link draft.groups draft.places) draft.links, UnknownGroup)
    ∷ (list_all (λ message. nat_le 1 (length message.to)) draft.messages, NoDestination)
    ∷ (list_all (λ message. all_differ message.to) draft.messages, DoubleDestination)
    ∷ (is_message draft.target_message draft.messages, UnknownTarget)
    ∷ (is_target_addressed draft, TargetNotAddressed)
    ∷ []

-- all the rules, in order
abbrev pub checks : Draft → List Check
checks draft = limit_checks draft ++ name_checks draft ++ reference_checks draft

-- the fault of the first rule that does not hold
abbrev pub judge : List Check → Result (Unit {0}) ScenarioFault
judge [] = Ok tt
judge (check ∷ rest) = if check.0 then judge rest else Err check.1
