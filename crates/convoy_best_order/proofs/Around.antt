-- What is asked around a target is asked of the scenario around it.
use Rattle.std.proofs.Common.{◌≡◌, ℕ, List, [], length, map, get_or, Option, Some, None, Ok, IfSome, IsTrue, refl, sym, ap, subst}
use Rattle.std.specs.List.{range_with_len}
use Rattle.std.specs.List.Sorted.{IsPermutation}
use Rattle.convoy_around.specs.Around.{around_at, is_span}
use Rattle.convoy_around.specs.AroundLaws.{AroundIsScenario}
use Rattle.convoy_scenario.specs.Scenario.{Scenario}
use Rattle.convoy_scenario.specs.WellFormed.{IsScenario}
use Rattle.convoy_orders.specs.Relisted.{number_in}
use Rattle.convoy_survey.specs.Surveys.{with_rows}
use Rattle.convoy_branch.specs.Options.{Settings}
use Rattle.convoy_best_order.specs.declared.best.Reason.{Reason}
use Rattle.convoy_best_order.specs.declared.excess.Excess.{Excess}
use Rattle.convoy_best_order.specs.declared.target.Target.{Target}
use Rattle.convoy_best_order.specs.Best.{IsReason}
use Rattle.convoy_best_order.specs.OrderLaws.{IsKeptIn}
use Rattle.convoy_best_order.specs.Orders.{IsOrder, listed, names_of}
use Rattle.convoy_best_order.specs.Targets.{MayBeTarget, asked_at, asked_of}
use Rattle.convoy_best_order.proofs.Asking.{well_asked}

-- ---- the scenario
pub well_at : AroundIsScenario → (span : Option ℕ) → IfSome span (λ n. IsTrue (is_span n)) → (scenario : Scenario) (target : Target) → IsScenario scenario
    → MayBeTarget scenario target → IsScenario (asked_at span scenario target)
well_at formed None short scenario target well may = well_asked scenario target well may
well_at formed (Some n) short scenario target well may = formed n scenario target.message target.group well short may.known may.addressed

-- its target may be one of it
may_around : (n : ℕ) (scenario : Scenario) (target : Target) → IsScenario (around_at n scenario target.message target.group)
    → MayBeTarget (around_at n scenario target.message target.group) target
unfolding around_at
may_around n scenario target well = record { known = well.target; addressed = well.addressed; room = well.room }

pub may_at : AroundIsScenario → (span : Option ℕ) → IfSome span (λ n. IsTrue (is_span n)) → (scenario : Scenario) (target : Target) → IsScenario scenario
    → MayBeTarget scenario target → MayBeTarget (asked_at span scenario target) target
may_at formed None short scenario target well may = record { known = may.known; addressed = may.addressed; room = may.room }
may_at formed (Some n) short scenario target well may =
    may_around n scenario target (formed n scenario target.message target.group well short may.known may.addressed)

-- it asks of that target already
pub again : (span : Option ℕ) (scenario : Scenario) (target : Target) → asked_of (asked_at span scenario target) target ≡ asked_at span scenario target
unfolding around_at
again None scenario target = refl
again (Some n) scenario target = refl

-- ---- its groups
groups_at : (span : Option ℕ) (scenario : Scenario) (target : Target) → (asked_at span scenario target).groups ≡ scenario.groups
unfolding around_at
groups_at None scenario target = refl
groups_at (Some n) scenario target = refl

-- an order of some groups
abbrev IsOrderOf : List (List ℕ) → List ℕ → Type 0
IsOrderOf groups order = IsPermutation (range_with_len 0 (length groups)) order

pub order_at : (span : Option ℕ) (scenario : Scenario) (target : Target) (order : List ℕ) → IsOrder scenario order → IsOrder (asked_at span scenario target) order
order_at span scenario target order is = subst (λ (groups : List (List ℕ)). IsOrderOf groups order) (sym (groups_at span scenario target)) is

-- an order of the scenario of which each target has rows is one of the scenario
groups_with_rows : (span : Option ℕ) (scenario : Scenario) → (with_rows span scenario).groups ≡ scenario.groups
unfolding around_at
groups_with_rows None scenario = refl
groups_with_rows (Some n) scenario = refl

pub order_of_rows : (span : Option ℕ) (scenario : Scenario) (order : List ℕ) → IsOrder (with_rows span scenario) order → IsOrder scenario order
order_of_rows span scenario order is = subst (λ (groups : List (List ℕ)). IsOrderOf groups order) (groups_with_rows span scenario) is

-- the numbers of groups in an order
pub numbers_at : (span : Option ℕ) (scenario : Scenario) (target : Target) (order : List ℕ)
    → number_in (names_of (asked_at span scenario target) order) (asked_at span scenario target).groups ≡ number_in (names_of scenario order) scenario.groups
numbers_at span scenario target order =
    ap (λ (groups : List (List ℕ)). number_in (map (λ g. get_or groups g []) order) groups) (groups_at span scenario target)

-- ---- what is said of a target around it is said of the scenario around it, and the other way round
pub kept_there : (span : Option ℕ) (scenario : Scenario) (order : List ℕ) (most : Excess) (target : Target) → IsKeptIn span scenario order most target
    → IsKeptIn None (asked_at span scenario target) order most target
kept_there span scenario order most target kept = record {
  instance = kept.instance;
  made = subst (λ (s : Scenario). listed s order ≡ Ok kept.instance) (sym (again span scenario target)) kept.made;
  latency = kept.latency;
  upper = kept.upper;
  keeps = kept.keeps;
}

pub kept_here : (span : Option ℕ) (scenario : Scenario) (order : List ℕ) (most : Excess) (target : Target) → IsKeptIn None (asked_at span scenario target) order most target
    → IsKeptIn span scenario order most target
kept_here span scenario order most target kept = record {
  instance = kept.instance;
  made = subst (λ (s : Scenario). listed s order ≡ Ok kept.instance) (again span scenario target) kept.made;
  latency = kept.latency;
  upper = kept.upper;
  keeps = kept.keeps;
}

pub reason_there : (settings : Settings) (span : Option ℕ) (scenario : Scenario) (targets : List Target) (groups : List ℕ) (reason : Reason)
    → IsReason settings span scenario targets groups reason → IsReason settings None (asked_at span scenario reason.target) targets groups reason
reason_there settings span scenario targets groups reason is = record {
  of_target = is.of_target;
  ahead = is.ahead;
  behind = is.behind;
  split = is.split;
  among = is.among;
  is = order_at span scenario reason.target reason.order.items is.is;
  found = record {
    instance = is.found.instance;
    made = subst (λ (s : Scenario). listed s reason.order.items ≡ Ok is.found.instance) (sym (again span scenario reason.target)) is.found.made;
    found = is.found.found;
  };
}
