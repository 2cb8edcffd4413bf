-- What a scenario says, as plain data: groups and messages go by number, from 0, in the order of the text.
use Rattle.std.specs.Prelude.{◌≡◌, ℕ, ◌+◌, ◌-◌, nat_lt, Bool, true, false, ◌==◌, ◌&&◌, ◌||◌, not, List, [], length, find, slice_index_or, Option, IsTrue}
use Rattle.std.specs.List.{list_any, range_with_len}
use Rattle.std.specs.Option.{is_some, option_map_or}
use Rattle.convoy_scenario.specs.declared.sender.Sender.{Sender}
use Rattle.convoy_scenario.specs.declared.sender.Sender.TheVariants.{Client, Group}
use Rattle.convoy_draft.specs.declared.time.Time.{Time}
use Rattle.convoy_draft.specs.declared.time.Time.TheVariants.{Ticks, Real}

-- a message: its name, who sends it, the groups that it goes to, the tick from which it may be issued, and how long it may wait from then to its issue
pub record Message : Type 0 where
  pub name : List ℕ
  pub sender : Sender
  pub destinations : List ℕ
  pub at : ℕ
  pub longest_wait : ℕ

-- a link: what goes from the sender to the group takes a number of ticks from the least to the most. From a group to itself go the messages that it sends to itself, and where the link is for stamps its own stamps, too
pub record Link : Type 0 where
  pub sender : Sender
  pub to : ℕ
  pub least : ℕ
  pub most : ℕ
  pub stamps : Bool

-- a scenario: how time goes in it, how many nanoseconds a tick lasts where that is known, D, the groups' names, the names of the places at which clients are, the links but for those between two places whose range is 1 to D, the messages, and the message and the group of which the latency is asked
pub record Scenario : Type 0 where
  pub time : Time
  pub tick : Option ℕ
  pub delay : ℕ
  pub groups : List (List ℕ)
  pub places : List (List ℕ)
  pub links : List Link
  pub multicasts : List Message
  pub target_message : ℕ
  pub target_group : ℕ

-- what stands for a message past the last one: it goes to no group
abbrev pub no_message : Message
no_message = record { name = []; sender = Client 0; destinations = []; at = 0; longest_wait = 0 }

-- the message of that number
abbrev pub message_at : Scenario → ℕ → Message
message_at scenario m = slice_index_or scenario.multicasts m no_message

-- the message may wait: it is not known at which tick it is issued
abbrev pub may_wait : Message → Bool
may_wait message = nat_lt 0 message.longest_wait

-- the first and the last tick at which a message may be issued
abbrev pub window_of : Message → ℕ × ℕ
window_of message = (message.at, message.at + message.longest_wait)

-- some group's own stamps take time, by its link to itself
abbrev pub has_own_stamps : Scenario → Bool
has_own_stamps scenario = list_any (λ link. link.stamps) scenario.links

-- time is real, or some message may wait, or some group's own stamps take time, or clients are at named places: lines that tell such a scenario say how time goes
abbrev pub is_timed : Scenario → Bool
is_timed scenario = by_time scenario.time where
  by_time : Time → Bool
  by_time Real = true
  by_time Ticks = list_any may_wait scenario.multicasts || has_own_stamps scenario || nat_lt 0 (length scenario.places)

-- the name of the group of that number
abbrev pub group_name_at : Scenario → ℕ → List ℕ
group_name_at scenario g = slice_index_or scenario.groups g []

-- the name of the place of that number, from 1
abbrev pub place_name_at : Scenario → ℕ → List ℕ
place_name_at scenario p = slice_index_or scenario.places (p - 1) []

-- the numbers of the messages
abbrev pub message_numbers : Scenario → List ℕ
message_numbers scenario = range_with_len 0 (length scenario.multicasts)

-- the message goes to the group
abbrev pub is_addressed : Message → ℕ → Bool
is_addressed message g = list_any (λ h. h == g) message.destinations

-- group g is a destination of message m
abbrev pub GoesTo : Scenario → ℕ → ℕ → Type 0
GoesTo scenario m g = IsTrue (is_addressed (message_at scenario m) g)

-- the two are one sender
abbrev pub is_same_sender : Sender → Sender → Bool
is_same_sender (Client p) (Client q) = p == q
is_same_sender (Group g) (Group h) = g == h
is_same_sender (Client p) (Group h) = false
is_same_sender (Group g) (Client q) = false

-- the link from the one to the other, if there is one
abbrev pub link_between : List Link → Sender → ℕ → Option Link
link_between links sender to = find (λ link. is_same_sender sender link.sender && (to == link.to)) links

-- what the one sends to the other takes time: they are two places, or a group has a link to itself
abbrev pub takes_time : Scenario → Sender → ℕ → Bool
takes_time scenario sender to = not (is_same_sender sender (Group to)) || is_some (link_between scenario.links sender to)

-- the stamp that the one group proposes takes time on its way to the other: they are two, or the group has a link to itself that is for stamps, too
abbrev pub stamp_takes_time : Scenario → ℕ → ℕ → Bool
stamp_takes_time scenario from to = not (from == to) || option_map_or (λ link. link.stamps) (link_between scenario.links (Group from) to) false

-- the sender is the group itself, and the stamps that it proposes to itself take time
abbrev pub own_stamps_take_time : Scenario → Sender → ℕ → Bool
own_stamps_take_time scenario (Client p) to = false
own_stamps_take_time scenario (Group g) to = (g == to) && stamp_takes_time scenario g to

-- the same takes time in both scenarios
pub record TakeTimeAlike (scenario other : Scenario) : Type 0 where
  pub messages : (sender : Sender) (to : ℕ) → takes_time other sender to ≡ takes_time scenario sender to
  pub stamps : (from to : ℕ) → stamp_takes_time other from to ≡ stamp_takes_time scenario from to

-- the same groups have links to themselves, for messages alone or for stamps, too
pub record HaveSameHomes (scenario other : Scenario) : Type 0 where
  pub messages : (g : ℕ) → takes_time other (Group g) g ≡ takes_time scenario (Group g) g
  pub stamps : (g : ℕ) → stamp_takes_time other g g ≡ stamp_takes_time scenario g g

-- the least and the greatest delay of what goes from the one to the other: those of their link, or 1 and D
abbrev pub range_between : Scenario → Sender → ℕ → ℕ × ℕ
range_between scenario sender to =
    option_map_or (λ link. (link.least, link.most)) (link_between scenario.links sender to) (1, scenario.delay)
