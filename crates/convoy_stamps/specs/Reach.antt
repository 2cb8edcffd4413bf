-- The reach of a local stamp: the local stamps from which it may have risen, one after the other. Each goes by its pair of a message and a group.
use Rattle.std.specs.Prelude.{ℕ, ◌==◌, nat_le, Bool, ◌&&◌, ◌||◌, not, List, map}
use Rattle.std.specs.List.{flat_map}
use Rattle.convoy_scenario.specs.Scenario.{Scenario, message_at, message_numbers, is_addressed, GoesTo}
use Rattle.convoy_sim.specs.Moments.{next_arrival}
use Rattle.convoy_intervals.specs.Bounds.{Tables}
use Rattle.convoy_stamps.specs.declared.pair.Pair.{Pair}
use Rattle.convoy_stamps.specs.Closures.{reached_from}

abbrev pub pair_of : ℕ → ℕ → Pair
pair_of m g = record { message = m; group = g }

-- the group is a destination of the message
abbrev pub IsPair : Scenario → Pair → Type 0
IsPair scenario pair = GoesTo scenario pair.message pair.group

-- the pairs of a scenario: each message with each of its destinations
abbrev pub pairs_of : Scenario → List Pair
pairs_of scenario = flat_map (λ m. map (pair_of m) (message_at scenario m).destinations) (message_numbers scenario)

abbrev pub is_same : Pair → Pair → Bool
is_same a b = (a.message == b.message) && (a.group == b.group)

-- the next pair is at the same group, where its message may arrive no later than the pair's
abbrev pub may_precede : Tables → Pair → Pair → Bool
may_precede tables pair next =
    (next.group == pair.group) && nat_le (tables.least_arrival next.message pair.group) (tables.greatest_arrival pair.message pair.group)

-- the message of the next pair goes to the pair's group too, and may be committed there before the pair's message arrives
abbrev pub may_raise : Scenario → Tables → Pair → Pair → Bool
may_raise scenario tables pair next =
    is_addressed (message_at scenario next.message) pair.group
    && nat_le (next_arrival scenario.time (tables.least_settling next.message pair.group)) (tables.greatest_arrival pair.message pair.group)

-- the stamp of a pair may have the time after that of the next pair, which is of another message, and by a commit of another one than m
abbrev pub leads_to : Scenario → Tables → ℕ → Pair → Pair → Bool
leads_to scenario tables m pair next =
    not (next.message == pair.message)
    && (may_precede tables pair next || (not (next.message == m) && may_raise scenario tables pair next))

-- the next pair is the pair itself, or one to which it leads
abbrev pub follows : Scenario → Tables → ℕ → Pair → Pair → Bool
follows scenario tables m pair next = is_same pair next || leads_to scenario tables m pair next

-- the reach of the local stamp of message m at group g: its pair, those to which that leads, those to which these lead, and so on
unfoldable pub reach_of : Scenario → Tables → ℕ → ℕ → List Pair
reach_of scenario tables m g = reached_from (follows scenario tables m) (pairs_of scenario) (pair_of m g)
