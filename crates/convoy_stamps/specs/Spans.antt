-- A scenario with a box, and what the program reads of it.
use Rattle.std.specs.Prelude.{◌≡◌, ℕ, ◌==◌, nat_lt, nat_le, Bool, ◌&&◌, not, ◌∷◌, map}
use Rattle.std.specs.List.{filter}
use Rattle.convoy_scenario.specs.Scenario.{Scenario, message_at, is_addressed}
use Rattle.convoy_scenario.specs.WellFormed.{IsScenario}
use Rattle.convoy_sim.specs.declared.timestamp.Timestamp.{Timestamp}
use Rattle.convoy_sim.specs.Times.{greatest}
use Rattle.convoy_sim.specs.Stamps.{is_less}
use Rattle.convoy_intervals.specs.Boxes.{Box}
use Rattle.convoy_intervals.specs.Bounds.{Tables, tables_of, rivals}
use Rattle.convoy_intervals.specs.Tracked.{Tracked}
use Rattle.convoy_stamps.specs.declared.pair.Pair.{Pair}
use Rattle.convoy_stamps.specs.Reach.{may_precede, may_raise, leads_to, follows}
use Rattle.convoy_stamps.specs.StampBounds.{lowest_stamp}

-- a scenario with a box
pub record Boxed : Type 0 where
  pub scenario : Scenario
  pub ranges : Box

-- the box that is tracked is one of the scenario, which is well formed
pub record IsBoxed (scenario : Scenario) (tracked : Tracked) : Type 0 where
  pub lawful : IsScenario scenario
  pub of_scenario : tracked.scenario ≡ scenario

abbrev pub tables_in : Boxed → Tables
tables_in boxed = tables_of boxed.scenario boxed.ranges

-- the next pair may precede a pair, or raise the clock before it
abbrev pub target_may_precede : Boxed → Pair → Pair → Bool
target_may_precede boxed = may_precede (tables_in boxed)

abbrev pub target_may_raise : Boxed → Pair → Pair → Bool
target_may_raise boxed = may_raise boxed.scenario (tables_in boxed)

-- a pair leads to the next one, in the reach of a local stamp of the target
abbrev pub target_leads_to : Boxed → Pair → Pair → Bool
target_leads_to boxed = leads_to boxed.scenario (tables_in boxed) boxed.scenario.target_message

abbrev pub target_follows : Boxed → Pair → Pair → Bool
target_follows boxed = follows boxed.scenario (tables_in boxed) boxed.scenario.target_message

-- message q goes to the target's group, and surely arrives there before message n
abbrev pub is_sure_before : Boxed → ℕ → ℕ → Bool
is_sure_before boxed n q =
    let group = boxed.scenario.target_group in
    is_addressed (message_at boxed.scenario q) group
    && (not (q == n) && nat_lt ((tables_in boxed).greatest_arrival q group) ((tables_in boxed).least_arrival n group))

-- message n goes to the target's group, may arrive there by that tick, and its stamp there is not surely greater than `highest`
abbrev pub may_hold_back : Boxed → ℕ → Timestamp → ℕ → Bool
may_hold_back boxed committed highest n =
    let group = boxed.scenario.target_group in
    is_addressed (message_at boxed.scenario n) group
    && nat_le ((tables_in boxed).least_arrival n group) committed
    && not (is_less highest (lowest_stamp boxed.scenario (tables_in boxed) n group))

-- the last commit at the target's group, of the target and of its rivals, but for those whose stamps there are surely greater than `highest`
abbrev pub last_commit_by : Boxed → Timestamp → ℕ
last_commit_by boxed highest =
    let group = boxed.scenario.target_group in
    greatest (map (λ n. (tables_in boxed).greatest_settling n group)
    (boxed.scenario.target_message
    ∷ filter (λ n. not (is_less highest (lowest_stamp boxed.scenario (tables_in boxed) n group))) (rivals boxed.scenario (tables_in boxed))))
