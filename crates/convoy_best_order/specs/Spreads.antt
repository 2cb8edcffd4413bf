-- How late a target is with the groups in some order, as `latency` finds it.
use Rattle.std.specs.Prelude.{◌≡◌, ℕ, ◌<◌, List, Option, Some, Ok, Contains}
use Rattle.convoy_scenario.specs.Scenario.{Scenario}
use Rattle.convoy_branch.specs.Options.{Settings}
use Rattle.convoy_survey.specs.declared.finding.Finding.{Finding}
use Rattle.convoy_survey.specs.Findings.{IsFinding, least_of, most_of}
use Rattle.convoy_best_order.specs.declared.excess.Excess.{Excess}
use Rattle.convoy_best_order.specs.declared.spread.Spread.{Spread}
use Rattle.convoy_best_order.specs.declared.target.Target.{Target}
use Rattle.convoy_best_order.specs.Orders.{IsOrder, listed}
use Rattle.convoy_best_order.specs.Targets.{asked_at, limit_of}

-- A search with these settings found that the greatest latency of the scenario is from the least to the most.
pub record IsSpread (settings : Settings) (scenario : Scenario) (spread : Spread) : Type 0 where
  pub finding : Finding
  pub found : IsFinding settings scenario finding
  pub least : least_of finding ≡ Some spread.least
  pub most : most_of finding ≡ Some spread.most

-- It found so of the target, or around it where a span is given, where the scenario's groups are listed in that order.
pub record IsSpreadIn (settings : Settings) (span : Option ℕ) (scenario : Scenario) (order : List ℕ) (target : Target) (spread : Spread) : Type 0 where
  pub instance : Scenario
  pub made : listed (asked_at span scenario target) order ≡ Ok instance
  pub found : IsSpread settings instance spread

-- For one of these targets, with the groups in some order, a search with these settings may stay open: what it finds at least may be below what it finds at most.
pub record MayStayOpen (settings : Settings) (span : Option ℕ) (scenario : Scenario) (targets : List Target) : Type 0 where
  pub target : Target
  pub of_target : Contains targets target
  pub order : List ℕ
  pub is : IsOrder scenario order
  pub spread : Spread
  pub found : IsSpreadIn settings span scenario order target spread
  pub is_open : spread.least < spread.most

-- by how much the latency of the target exceeds its limit at least, and at most
abbrev pub least_excess : Target → Spread → Excess
least_excess target spread = record { latency = spread.least; limit = limit_of target }

abbrev pub most_excess : Target → Spread → Excess
most_excess target spread = record { latency = spread.most; limit = limit_of target }
