-- Regions: sets of schedules, by a range of the delay of each packet, and by what comes before what where ties may fall in any order.
use Rattle.std.specs.Prelude.{ℕ, ◌+◌, ◌==◌, nat_lt, Bool, true, false, ◌&&◌, not, List, [], ◌∷◌, ◌++◌, length, map, if◌then◌else◌}
use Rattle.std.specs.List.{All, list_any, range_with_len, sum_by}
use Rattle.convoy_draft.specs.declared.limits.TheConstants.{MOST_MULTICASTS}
use Rattle.convoy_draft.specs.declared.time.Time.{Time}
use Rattle.convoy_draft.specs.declared.time.Time.TheVariants.{Ticks, Real}
use Rattle.convoy_scenario.specs.Scenario.{Scenario}
use Rattle.convoy_packets.specs.Assignment.{Schedule}
use Rattle.convoy_packets.specs.Order.{Order, no_order}
use Rattle.convoy_packets.specs.OrderLists.{order_of}
use Rattle.convoy_packets.specs.Table.{greatest_delays}
use Rattle.convoy_sim.specs.declared.moment.MomentKind.{MomentKind}
use Rattle.convoy_sim.specs.declared.moment.MomentKind.TheVariants.{Arrival, Commit}
use Rattle.convoy_intervals.specs.Boxes.{Box, IsBox, IsIn, IsPoint, is_point, root_of}
use Rattle.convoy_intervals.specs.Boxes as boxes
use Rattle.convoy_regions.specs.declared.stage.Stage.{Stage}
use Rattle.convoy_regions.specs.Stages.{AreKept, IsPrecedence, Precedence, is_same, known_before, moment_of, stage_at, stage_of, stages_of}

-- a region, by the range of each packet and by what comes before what
pub record Region : Type 0 where
  pub ranges : Box
  pub before : List Precedence

-- a region of a scenario
pub record IsRegion (scenario : Scenario) (region : Region) : Type 0 where
  pub inside : IsBox scenario region.ranges
  pub within : All (IsPrecedence scenario) region.before

-- a box as a region: whatever order ties fall in
abbrev pub any_order : Box → Region
any_order ranges = record { ranges = ranges; before = [] }

-- the root: every assignment is a member
abbrev pub root_region : Scenario → Region
root_region scenario = any_order (root_of scenario)

-- the schedule is a member of the region: its delays lie in their ranges, and in its run each precedence holds
abbrev pub IsMember : Scenario → Region → Schedule → Type 0
IsMember scenario region schedule = IsIn region.ranges schedule × AreKept scenario schedule region.before

-- ---- Halves

-- the halves by the delay of a packet: those of the ranges
abbrev pub lower_half : Region → ℕ → ℕ → Region
lower_half region packet at = record region { ranges = boxes.lower_half region.ranges packet at }

abbrev pub upper_half : Region → ℕ → ℕ → Region
upper_half region packet at = record region { ranges = boxes.upper_half region.ranges packet at }

-- the region with a precedence more
abbrev pub with_order : Region → Stage → Stage → Region
with_order region a b = record region { before = region.before ++ (a, b) ∷ [] }

-- the halves by the order of two stages, by their numbers: that in which the first comes before the second, and that in which the second comes before the first
abbrev pub first_half : Scenario → Region → ℕ → ℕ → Region
first_half scenario region first second = with_order region (stage_at scenario first) (stage_at scenario second)

abbrev pub second_half : Scenario → Region → ℕ → ℕ → Region
second_half scenario region first second = with_order region (stage_at scenario second) (stage_at scenario first)

abbrev pub is_commit : MomentKind → Bool
is_commit Arrival = false
is_commit Commit = true

-- two stages of one group, not both commits, of which neither comes before the other by the precedences: no stamp depends on the order of two commits
abbrev pub may_come_either_way : List Precedence → Stage → Stage → Bool
may_come_either_way before a b =
    (a.group == b.group) && not (is_same a b) && not (is_commit a.kind && is_commit b.kind)
    && not (known_before before a b) && not (known_before before b a)

-- the region may be split by the order of the stages of these numbers
abbrev pub can_order : Scenario → Region → ℕ → ℕ → Bool
can_order scenario region first second =
    nat_lt first second && nat_lt second (length (stages_of scenario))
    && may_come_either_way region.before (stage_at scenario first) (stage_at scenario second)

-- ---- The run of a region

-- how many of the stages of a message at a group come before a stage, by the precedences
abbrev pub one_if : Bool → ℕ
one_if holds = if holds then 1 else 0

abbrev pub count_before : List Precedence → Stage → ℕ → ℕ
count_before before stage m =
    one_if (known_before before (stage_of Arrival m stage.group) stage) + one_if (known_before before (stage_of Commit m stage.group) stage)

-- the rank of a stage by the precedences: how many come before it
abbrev pub rank_by : List Precedence → Stage → ℕ
rank_by before stage = sum_by (count_before before stage) (range_with_len 0 MOST_MULTICASTS)

-- the order of ties by these ranks; the fixed order where time goes in whole ticks, or where there is no precedence
abbrev pub order_by : Time → Scenario → List Precedence → Order
order_by Ticks scenario before = no_order
order_by Real scenario [] = no_order
order_by Real scenario (pair ∷ before) = order_of scenario (map (rank_by (pair ∷ before)) (stages_of scenario))

-- the run of a region: all its greatest delays, and ties as the precedences say
abbrev pub run_of : Scenario → Region → Schedule
run_of scenario region = record {
  delays = greatest_delays region.ranges;
  order = order_by scenario.time scenario region.before;
}

-- ---- Decided ties

-- two stages that may come either way fall in one tick of the region's run
abbrev pub is_open_tie : Scenario → Region → ℕ → ℕ → Bool
is_open_tie scenario region first second =
    can_order scenario region first second
    && ((moment_of scenario (run_of scenario region) (stage_at scenario first)).tick
    == (moment_of scenario (run_of scenario region) (stage_at scenario second)).tick)

-- whether there is such a tie
abbrev pub has_open_tie : Scenario → Region → Bool
has_open_tie scenario region =
    let numbers = range_with_len 0 (length (stages_of scenario)) in
    list_any (λ first. list_any (is_open_tie scenario region first) numbers) numbers

-- in whole ticks no tie is open
abbrev pub is_decided_in : Time → Scenario → Region → Bool
is_decided_in Ticks scenario region = true
is_decided_in Real scenario region = not (has_open_tie scenario region)

-- the region has one delay for each packet, and no tie of theirs is open: so all its members have the same latency
abbrev pub is_decided : Scenario → Region → Bool
is_decided scenario region = is_point region.ranges && is_decided_in scenario.time scenario region
