-- Sure leads: by how much the stamp of a message at the target's group surely exceeds others.
use Rattle.std.specs.Prelude.{ℕ, ◌+◌, ◌-◌, ◌*◌, ◌==◌, nat_lt, nat_le, max, min, Bool, ◌&&◌, ◌||◌, List, [], ◌∷◌, length, map, replicate, slice_index_or, slice_set, if◌then◌else◌}
use Rattle.std.specs.List.{fold, filter, range_with_len}
use Rattle.convoy_draft.specs.declared.limits.TheConstants.{MOST_GROUPS}
use Rattle.convoy_draft.specs.declared.time.Time.{Time}
use Rattle.convoy_draft.specs.declared.time.Time.TheVariants.{Ticks, Real}
use Rattle.convoy_scenario.specs.Scenario.{Scenario, message_at}
use Rattle.convoy_sim.specs.Times.{Tick, greatest}
use Rattle.convoy_sim.specs.Delivery.{addressed_to}
use Rattle.convoy_packets.specs.Order.{place}
use Rattle.convoy_intervals.specs.Bounds.{Tables}
use Rattle.convoy_stamps.specs.declared.pair.Pair.{Pair}
use Rattle.convoy_stamps.specs.Reach.{pairs_of}

-- the arrival of message z at one tick is before that of message q at another in the fixed order of ties
abbrev pub is_first : Tick → ℕ → Tick → ℕ → Bool
is_first a z b q = nat_lt a b || ((a == b) && nat_lt z q)

-- the arrival of message z at one tick is surely before that of message q at another
abbrev pub is_earlier : Time → Tick → ℕ → Tick → ℕ → Bool
is_earlier Ticks a z b q = is_first a z b q
is_earlier Real a z b q = nat_lt a b

-- the arrival of message z at one tick may be before that of message q at another
abbrev pub may_be_earlier : Time → Tick → ℕ → Tick → ℕ → Bool
may_be_earlier Ticks a z b q = is_first a z b q
may_be_earlier Real a z b q = nat_le a b

-- the messages that surely arrive at group g after message q, which arrives there by that tick
abbrev pub sure_after : Scenario → Tables → Tick → ℕ → ℕ → List ℕ
sure_after scenario tables tick q g = filter (λ z. is_earlier scenario.time tick q (tables.least_arrival z g) z) (addressed_to scenario g)

-- the messages that surely arrive at group g after that tick
abbrev pub sure_later : Scenario → Tables → Tick → ℕ → List ℕ
sure_later scenario tables tick g = filter (λ z. nat_lt tick (tables.least_arrival z g)) (addressed_to scenario g)

-- the messages that surely arrive at group y after the clock there has passed the stamp of message q at group g: after q arrives, where that is y, and else after q is committed at y
abbrev pub sure_behind : Scenario → Tables → ℕ → ℕ → ℕ → List ℕ
sure_behind scenario tables q g y =
    if y == g then sure_after scenario tables (tables.greatest_arrival q g) q g else sure_later scenario tables (tables.greatest_settling q y) y

-- one more than the lead over message m at group g, 0 where none is known
abbrev pub lead_at : List ℕ → ℕ → ℕ → ℕ
lead_at leads m g = slice_index_or leads (place m g) 0

-- a lead and the number of those that are no less; 0 where none is known
abbrev pub with_number : (ℕ → ℕ) → List ℕ → ℕ → ℕ
with_number lead zs z = if lead z == 0 then 0 else lead z + length (filter (λ w. nat_le (lead z) (lead w)) zs)

-- the greatest of these: what precedes all these messages at one group, whose stamps differ, has at least this lead
abbrev pub top_of : (ℕ → ℕ) → List ℕ → ℕ
top_of lead zs = greatest (map (with_number lead zs) zs)

-- how many local stamps there are, of which none has a greater time
abbrev pub pair_count : Scenario → ℕ
pair_count scenario = length (pairs_of scenario)

-- the leads over the messages that surely arrive behind a pair at one of its message's destinations
abbrev pub top_behind : Scenario → Tables → List ℕ → Pair → ℕ → ℕ
top_behind scenario tables leads pair y = top_of (λ z. lead_at leads z y) (sure_behind scenario tables pair.message pair.group y)

-- what the lead over a pair becomes
abbrev pub next_lead : Scenario → Tables → List ℕ → Pair → ℕ
next_lead scenario tables leads pair =
    min (pair_count scenario + 1) (max (lead_at leads pair.message pair.group)
    (greatest (map (top_behind scenario tables leads pair) (message_at scenario pair.message).destinations)))

-- the leads with that over one pair more
abbrev pub with_lead : Scenario → Tables → List ℕ → Pair → List ℕ
with_lead scenario tables leads pair = slice_set leads (place pair.message pair.group) (next_lead scenario tables leads pair)

-- the first pair arrives later, at the latest, than the second one
abbrev pub is_later : Tables → Pair → Pair → Bool
is_later tables p q = is_first (tables.greatest_arrival q.message q.group) q.message (tables.greatest_arrival p.message p.group) p.message

-- a pair put in its place among some that are in order
abbrev pub insert_pair : Tables → List Pair → Pair → List Pair
insert_pair tables [] p = p ∷ []
insert_pair tables (q ∷ qs) p = if is_later tables p q then p ∷ q ∷ qs else q ∷ insert_pair tables qs p

-- the pairs by when they arrive at the latest, the last one first
abbrev pub last_first : Scenario → Tables → List Pair
last_first scenario tables = fold (insert_pair tables) [] (pairs_of scenario)

-- no lead is known but that of message n at the target's group over itself
abbrev pub first_leads : Scenario → ℕ → List ℕ
first_leads scenario n = slice_set (replicate (length scenario.multicasts * MOST_GROUPS) 0) (place n scenario.target_group) 1

-- the leads of message n at the target's group over all pairs
unfoldable pub leads_of : Scenario → Tables → ℕ → List ℕ
leads_of scenario tables n = fold (with_lead scenario tables) (first_leads scenario n) (last_first scenario tables)

-- its sure time: its stamp there has at least this time, by all leads at one group
unfoldable pub sure_time : Scenario → List ℕ → ℕ
sure_time scenario leads =
    greatest (map (λ g. top_of (λ z. lead_at leads z g) (addressed_to scenario g)) (range_with_len 0 (length scenario.groups))) - 1

-- what is sure of a message at the target's group: its leads, and its time
pub record Sure : Type 0 where
  pub leads : List ℕ
  pub time : ℕ

abbrev pub sure_of : Scenario → Tables → ℕ → Sure
sure_of scenario tables n = let leads = leads_of scenario tables n in record { leads = leads; time = sure_time scenario leads }
