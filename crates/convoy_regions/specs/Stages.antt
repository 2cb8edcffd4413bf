-- Stages: the arrival and the commit of a message at a group, in whichever run; and which stage comes before which.
use Rattle.std.specs.Prelude.{◌≡◌, ℕ, ◌/◌, ◌%◌, ◌<◌, ◌==◌, Bool, ◌&&◌, ◌||◌, IsTrue, List, [], ◌∷◌, slice_index_or, if◌then◌else◌}
use Rattle.std.specs.List.{All, filter, flat_map, fold, range_with_len}
use Rattle.convoy_draft.specs.declared.limits.TheConstants.{MOST_GROUPS, MOST_MULTICASTS}
use Rattle.convoy_scenario.specs.Scenario.{Scenario, GoesTo}
use Rattle.convoy_packets.specs.Assignment.{Schedule}
use Rattle.convoy_packets.specs.OrderLists.{has_moments}
use Rattle.convoy_packets.specs.declared.table_places.TheConstants.{PLACES}
use Rattle.convoy_sim.specs.declared.moment.Moment.{Moment}
use Rattle.convoy_sim.specs.declared.moment.MomentKind.{MomentKind}
use Rattle.convoy_sim.specs.declared.moment.MomentKind.TheVariants.{Arrival, Commit}
use Rattle.convoy_sim.specs.Moments.{arrival_of, commit_of, is_before, is_kind_before, is_same_kind}
use Rattle.convoy_regions.specs.declared.stage.Stage.{Stage}

-- a stage of that kind of message m at group g
abbrev pub stage_of : MomentKind → ℕ → ℕ → Stage
stage_of kind m g = record { kind = kind; message = m; group = g }

-- the moment of a stage in a run
abbrev pub moment_by : MomentKind → Scenario → Schedule → ℕ → ℕ → Moment
moment_by Arrival scenario schedule m g = arrival_of scenario schedule m g
moment_by Commit scenario schedule m g = commit_of scenario schedule m g

abbrev pub moment_of : Scenario → Schedule → Stage → Moment
moment_of scenario schedule stage = moment_by stage.kind scenario schedule stage.message stage.group

-- in the run of a schedule the one stage comes before the other
abbrev pub comes_before : Scenario → Schedule → Stage → Stage → Bool
comes_before scenario schedule a b = is_before (moment_of scenario schedule a) (moment_of scenario schedule b)

-- ---- All stages of a scenario

-- the stages of a place, which is one of a message at a group: its arrival and then its commit, where the message goes there
abbrev pub stages_in : Scenario → ℕ → List Stage
stages_in scenario at =
    if has_moments scenario at then stage_of Arrival (at / MOST_GROUPS) (at % MOST_GROUPS) ∷ stage_of Commit (at / MOST_GROUPS) (at % MOST_GROUPS) ∷ []
    else []

-- all stages, in the order in which an order of ties lists their ranks
unfoldable pub stages_of : Scenario → List Stage
stages_of scenario = flat_map (stages_in scenario) (range_with_len 0 PLACES)

-- the stage of that number
abbrev pub no_stage : Stage
no_stage = stage_of Arrival 0 0

abbrev pub stage_at : Scenario → ℕ → Stage
stage_at scenario number = slice_index_or (stages_of scenario) number no_stage

-- ---- Which stage comes before which

-- a precedence: of two stages of one group the first comes before the second
abbrev pub Precedence : Type 0
Precedence = Stage × Stage

-- a stage of the scenario: its message goes to its group, and both are within the limits
pub record IsStage (scenario : Scenario) (stage : Stage) : Type 0 where
  pub goes : GoesTo scenario stage.message stage.group
  pub message : stage.message < MOST_MULTICASTS
  pub group : stage.group < MOST_GROUPS

-- a precedence of stages of the scenario
pub record IsPrecedence (scenario : Scenario) (pair : Precedence) : Type 0 where
  pub first : IsStage scenario pair.0
  pub second : IsStage scenario pair.1
  pub one_group : pair.0.group ≡ pair.1.group

-- in the run of a schedule each precedence holds
abbrev pub AreKept : Scenario → Schedule → List Precedence → Type 0
AreKept scenario schedule before = All (λ pair. IsTrue (comes_before scenario schedule pair.0 pair.1)) before

-- the two are one stage
abbrev pub is_same : Stage → Stage → Bool
is_same a b = is_same_kind a.kind b.kind && (a.message == b.message) && (a.group == b.group)

-- the arrival of a message at a group, and its commit there: a message arrives before it is committed
abbrev pub is_own : Stage → Stage → Bool
is_own a b = is_kind_before a.kind b.kind && (a.message == b.message) && (a.group == b.group)

-- what comes before what by `known` and one precedence more: also each stage that is its first or comes before that, before each that is its second or comes after that
abbrev pub with_precedence : (Stage → Stage → Bool) → Precedence → Stage → Stage → Bool
with_precedence known pair a b =
    known a b || ((is_same a pair.0 || known a pair.0) && (is_same pair.1 b || known pair.1 b))

-- the precedences of a group
abbrev pub of_group : ℕ → List Precedence → List Precedence
of_group g before = filter (λ pair. pair.0.group == g) before

-- by some precedences the one stage comes before the other of its group: each message arrives before it is committed, and what follows from all of this
abbrev pub known_before : List Precedence → Stage → Stage → Bool
known_before before a b = fold with_precedence is_own (of_group a.group before) a b
