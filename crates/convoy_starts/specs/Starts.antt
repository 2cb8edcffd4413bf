-- Starts: how far stamps may rise beside that of a message at the target's group, tick by tick. Each number is to be added to how much the message's stamp there exceeds its sure time.
use Rattle.std.specs.Prelude.{ℕ, zero, suc, ◌+◌, ◌-◌, ◌==◌, nat_lt, nat_le, max, min, Bool, true, false, ◌&&◌, ◌||◌, not, List, [], ◌∷◌, ◌++◌, length, map, slice_index_or, if◌then◌else◌}
use Rattle.std.specs.List.{fold, filter, list_any, range_with_len}
use Rattle.convoy_draft.specs.declared.time.Time.{Time}
use Rattle.convoy_draft.specs.declared.time.Time.TheVariants.{Ticks, Real}
use Rattle.convoy_scenario.specs.Scenario.{Scenario, message_at, message_numbers}
use Rattle.convoy_sim.specs.Times.{Tick, greatest}
use Rattle.convoy_sim.specs.Moments.{next_arrival}
use Rattle.convoy_sim.specs.Stamps.{is_less}
use Rattle.convoy_sim.specs.Delivery.{addressed_to}
use Rattle.convoy_intervals.specs.Bounds.{Tables}
use Rattle.convoy_stamps.specs.declared.pair.Pair.{Pair}
use Rattle.convoy_stamps.specs.Reach.{pairs_of}
use Rattle.convoy_sure.specs.Windows.{LeadTables}
use Rattle.convoy_sure.specs.SureLeads.{Sure, pair_count, may_be_earlier, sure_after, sure_later, lead_at, top_of}

-- a number no greater than such a lead leaves room for
abbrev pub capped : ℕ → ℕ → ℕ → ℕ
capped sure lead value = if lead == 0 then value else min value (sure + 1 - lead)

-- a message over which there is such a lead may have a stamp above c
abbrev pub may_be_above : ℕ → ℕ → ℕ → Bool
may_be_above sure c lead = (lead == 0) || nat_le (c + lead) sure

-- c and how many of the messages zs may have stamps above it
abbrev pub room_above : ℕ → (ℕ → ℕ) → List ℕ → ℕ → ℕ
room_above sure lead zs c = c + length (filter (λ z. may_be_above sure c (lead z)) zs)

-- the most that a clock can be which starts at a value and gives stamps to some of the messages zs: it exceeds no c by more than messages may have stamps above c
abbrev pub window : ℕ → (ℕ → ℕ) → List ℕ → ℕ → ℕ
window sure lead zs value = fold min (value + length zs) (map (room_above sure lead zs) (range_with_len value (length zs)))

-- message z may arrive at group h at the tick `since` or later, and before message q, which arrives there by that tick
abbrev pub may_arrive : Time → Tables → Tick → ℕ → ℕ → Tick → ℕ → Bool
may_arrive time tables tick q h since z =
    not (z == q) && may_be_earlier time (max since (tables.least_arrival z h)) z tick q && nat_le since (tables.greatest_arrival z h)

-- the messages that may do so
abbrev pub arrivals_since : Scenario → Tables → Tick → ℕ → ℕ → Tick → List ℕ
arrivals_since scenario tables tick q h since = filter (may_arrive scenario.time tables tick q h since) (addressed_to scenario h)

-- a start: the commit of a message at a group by that tick, the most that it can raise the clock to, and the same for each message that might be committed nowhere before
pub record Start : Type 0 where
  pub at : Tick
  pub message : ℕ
  pub group : ℕ
  pub base : ℕ
  pub barred : List ℕ

-- the most that a start gives where message x is committed nowhere before
abbrev pub barred_at : Start → ℕ → ℕ
barred_at start x = slice_index_or start.barred x start.base

-- the most that it gives where messages x and q are committed nowhere before
abbrev pub value_for : Start → ℕ → ℕ → ℕ
value_for start x q = min start.base (min (barred_at start x) (barred_at start q))

-- the clock of group h as message q arrives there by that tick, with no commit there before
abbrev pub clock_alone : Scenario → Tables → Sure → ℕ → ℕ → Tick → ℕ
clock_alone scenario tables sure q h tick =
    window sure.time (λ z. lead_at sure.leads z h) (arrivals_since scenario tables tick q h 0) 0

-- the same, where that start gave it its last rise
abbrev pub clock_since : Scenario → Tables → Sure → ℕ → ℕ → ℕ → Tick → Start → ℕ
clock_since scenario tables sure x q h tick start =
    window sure.time (λ z. lead_at sure.leads z h)
    (filter (λ z. not (z == start.message)) (arrivals_since scenario tables tick q h (next_arrival scenario.time start.at)))
    (value_for start x q)

-- the start may come before message q arrives at group h by that tick, where message x is committed nowhere before
abbrev pub may_start : Time → ℕ → ℕ → ℕ → Tick → Start → Bool
may_start time x q h tick start =
    (start.group == h) && nat_le (next_arrival time start.at) tick && not (start.message == q) && not (start.message == x)

-- the clock by a start that may come before, 0 by one that may not
abbrev pub clock_from : Scenario → Tables → Sure → ℕ → ℕ → ℕ → Tick → Start → ℕ
clock_from scenario tables sure x q h tick start =
    if may_start scenario.time x q h tick start then clock_since scenario tables sure x q h tick start else 0

-- the clock, by no start or by any
abbrev pub clock_high : Scenario → Tables → Sure → List Start → ℕ → ℕ → ℕ → Tick → ℕ
clock_high scenario tables sure starts x q h tick =
    greatest (clock_alone scenario tables sure q h tick ∷ map (clock_from scenario tables sure x q h tick) starts)

-- the lead over message q at group h, and over those that surely arrive there after it, if it arrives by that tick
abbrev pub lead_by : Scenario → Tables → Sure → ℕ → ℕ → Tick → ℕ
lead_by scenario tables sure q h tick =
    max (lead_at sure.leads q h) (top_of (λ z. lead_at sure.leads z h) (sure_after scenario tables tick q h))

-- the most that the stamp of message q at group h can be, if it arrives there by that tick, and message x is committed nowhere before
abbrev pub stamp_high : Scenario → Tables → Sure → List Start → ℕ → ℕ → ℕ → Tick → ℕ
stamp_high scenario tables sure starts x q h tick =
    min (pair_count scenario) (capped sure.time (lead_by scenario tables sure q h tick) (clock_high scenario tables sure starts x q h tick + 1))

-- the last tick by which message c arrives at another group f, if it is committed at group g by that tick: each proposal takes one tick or more
abbrev pub arrives_by : LeadTables → Tick → ℕ → ℕ → ℕ → Tick
arrives_by tables tick c g f = min (tables.times.greatest_arrival c f) (tick - max 1 (tables.least_proposal c f g))

-- a proposal may have come from group f to another group g by that tick
abbrev pub may_have_come : Tick → ℕ → ℕ → Bool
may_have_come tick f g = not (f == g) && nat_lt 0 tick

-- the most that the stamp of message c at group f can be, if it is committed at group g at that tick; 0 for g itself, whose own stamp raises no clock there
abbrev pub stamp_for : Scenario → LeadTables → Sure → List Start → Tick → ℕ → ℕ → ℕ → ℕ → ℕ
stamp_for scenario tables sure starts tick x c g f =
    if may_have_come tick f g then stamp_high scenario tables.times sure starts x c f (arrives_by tables tick c g f) else 0

-- the most that the commit of message c at group g at that tick can raise the clock there to
abbrev pub raise_high : Scenario → LeadTables → Sure → List Start → Tick → ℕ → ℕ → ℕ → ℕ
raise_high scenario tables sure starts tick x c g =
    capped sure.time (top_of (λ z. lead_at sure.leads z g) (sure_later scenario tables.times tick g))
    (greatest (map (stamp_for scenario tables sure starts tick x c g) (message_at scenario c).destinations))

-- the message of a pair, which is not the target, may be committed at the pair's group at that tick
abbrev pub may_commit : Scenario → Tables → Tick → Pair → Bool
may_commit scenario tables tick pair =
    not (pair.message == scenario.target_message)
    && nat_le (tables.least_settling pair.message pair.group) tick
    && nat_le tick (tables.greatest_settling pair.message pair.group)

-- the start of a pair's commit at that tick, with or without its values for messages that are committed nowhere before
abbrev pub start_of : Scenario → LeadTables → Sure → Bool → List Start → Tick → Pair → Start
start_of scenario tables sure barring starts tick pair = record {
  at = tick;
  message = pair.message;
  group = pair.group;
  base = raise_high scenario tables sure starts tick scenario.target_message pair.message pair.group;
  barred =
      if barring then map (λ x. raise_high scenario tables sure starts tick x pair.message pair.group) (message_numbers scenario) else [];
}

-- no value of the first list is less than that of the second
abbrev pub covers_all : List ℕ → List ℕ → Bool
covers_all [] new = true
covers_all (a ∷ more) [] = false
covers_all (a ∷ more) (b ∷ others) = nat_le b a && covers_all more others

-- a start gives all that a later one of the same message and group gives
abbrev pub covers : Start → Start → Bool
covers old new = (old.message == new.message) && (old.group == new.group) && nat_le new.base old.base && covers_all old.barred new.barred

-- the starts with one more, if none covers it
abbrev pub with_start : List Start → Start → List Start
with_start starts new = if list_any (λ old. covers old new) starts then starts else starts ++ new ∷ []

-- the starts with that of a pair's commit at a tick, if it may be committed then
abbrev pub add_start : Scenario → LeadTables → Sure → Bool → Tick → List Start → Pair → List Start
add_start scenario tables sure barring tick starts pair =
    if may_commit scenario tables.times tick pair then with_start starts (start_of scenario tables sure barring starts tick pair) else starts

-- the starts before a tick, each from those before its own
abbrev pub starts_before : Scenario → LeadTables → Sure → Bool → ℕ → List Start
starts_before scenario tables sure barring zero = []
starts_before scenario tables sure barring (suc tick) =
    fold (add_start scenario tables sure barring tick) (starts_before scenario tables sure barring tick) (pairs_of scenario)

-- the first tick at which a commit is past each arrival by that tick
abbrev pub first_past : Time → Tick → Tick
first_past Ticks tick = tick
first_past Real tick = tick + 1

-- the starts that an arrival by that tick may follow
abbrev pub starts_by : Scenario → LeadTables → Sure → Bool → Tick → List Start
starts_by scenario tables sure barring tick = starts_before scenario tables sure barring (first_past scenario.time tick)

-- the last tick at which the target can arrive at a group
abbrev pub last_arrival : Scenario → Tables → Tick
last_arrival scenario tables =
    greatest (map (tables.greatest_arrival scenario.target_message) (message_at scenario scenario.target_message).destinations)

-- the stamp of the target at group h is surely less than that of a message at the target's group
abbrev pub is_surely_less : Scenario → Tables → Sure → List Start → ℕ → Bool
is_surely_less scenario tables sure starts h =
    let target = scenario.target_message in
    is_less (record { time = stamp_high scenario tables sure starts target target h (tables.greatest_arrival target h); group = h })
    (record { time = sure.time; group = scenario.target_group })
