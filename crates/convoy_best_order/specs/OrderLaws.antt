-- What is proved of the best order. Each is the one clause of the function of its name in the crate's module `best_order_laws`.
use Rattle.std.specs.Prelude.{◌≡◌, ◌⊎◌, ℕ, List, ◌++◌, Option, Ok, IfSome, IsTrue, Contains}
use Rattle.convoy_around.specs.Around.{is_span}
use Rattle.convoy_scenario.specs.Scenario.{Scenario}
use Rattle.convoy_scenario.specs.WellFormed.{IsScenario}
use Rattle.convoy_sim.specs.Greatest.{IsReached, IsUpper}
use Rattle.convoy_branch.specs.Options.{Settings}
use Rattle.convoy_best_order.specs.declared.best.Best.{Best}
use Rattle.convoy_best_order.specs.declared.excess.Excess.{Excess}
use Rattle.convoy_best_order.specs.declared.target.Target.{Target}
use Rattle.convoy_best_order.specs.Best.{IsBest}
use Rattle.convoy_best_order.specs.Excesses.{IsAtMost}
use Rattle.convoy_best_order.specs.Orders.{IsOrder, listed}
use Rattle.convoy_best_order.specs.Spreads.{MayStayOpen}
use Rattle.convoy_best_order.specs.Targets.{MayBeTarget, asked_at, limit_of}

-- With the groups in that order some schedule of some of these targets, around it where a span is given, exceeds its limit by so much, or by more.
pub record IsExceededIn (span : Option ℕ) (scenario : Scenario) (targets : List Target) (order : List ℕ) (least : Excess) : Type 0 where
  pub target : Target
  pub of_target : Contains targets target
  pub instance : Scenario
  pub made : listed (asked_at span scenario target) order ≡ Ok instance
  pub latency : ℕ
  pub reached : IsReached instance latency
  pub exceeds : IsAtMost least (record { latency = latency; limit = limit_of target })

-- With the groups in that order no schedule of this target, around it where a span is given, exceeds its limit by more than that.
pub record IsKeptIn (span : Option ℕ) (scenario : Scenario) (order : List ℕ) (most : Excess) (target : Target) : Type 0 where
  pub instance : Scenario
  pub made : listed (asked_at span scenario target) order ≡ Ok instance
  pub latency : ℕ
  pub upper : IsUpper instance latency
  pub keeps : IsAtMost (record { latency = latency; limit = limit_of target }) most

-- No order of the groups has a lesser greatest excess than the least that is told.
abbrev pub NoOrderIsBetter : Type 0
NoOrderIsBetter =
    (settings : Settings) (span : Option ℕ) (scenario : Scenario) (targets : List Target) (best : Best) (order : List ℕ) → IsScenario scenario
    → ((target : Target) → Contains targets target → MayBeTarget scenario target) → IfSome span (λ n. IsTrue (is_span n))
    → IsBest settings span scenario targets best → IsOrder scenario order
    → IsExceededIn span scenario targets order best.least

-- The order that is told has at most the most.
abbrev pub BestOrderKeeps : Type 0
BestOrderKeeps =
    (settings : Settings) (span : Option ℕ) (scenario : Scenario) (targets : List Target) (best : Best) (target : Target)
    → IsBest settings span scenario targets best → Contains targets target
    → IsKeptIn span scenario best.order.items best.most target

-- No order has a lesser greatest excess than the most, so that the order that is told is the best, unless some search may stay open.
abbrev pub BestOrderIsExact : Type 0
BestOrderIsExact =
    (settings : Settings) (span : Option ℕ) (scenario : Scenario) (targets : List Target) (best : Best) (order : List ℕ) → IsScenario scenario
    → ((target : Target) → Contains targets target → MayBeTarget scenario target) → IfSome span (λ n. IsTrue (is_span n))
    → IsBest settings span scenario targets best → IsOrder scenario order
    → IsExceededIn span scenario targets order best.most ⊎ MayStayOpen settings span scenario targets

-- What a target keeps where the groups from some place on are listed in one order, and its own group stands before these, it keeps where they are listed in any other.
abbrev pub OrderBehindIsFree : Type 0
OrderBehindIsFree =
    (span : Option ℕ) (scenario : Scenario) (target : Target) (ahead behind others : List ℕ) (most : Excess) → IsScenario scenario → MayBeTarget scenario target
    → IfSome span (λ n. IsTrue (is_span n))
    → IsOrder scenario (ahead ++ behind) → IsOrder scenario (ahead ++ others) → Contains ahead target.group
    → IsKeptIn span scenario (ahead ++ behind) most target
    → IsKeptIn span scenario (ahead ++ others) most target
