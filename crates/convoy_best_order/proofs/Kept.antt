-- What a target keeps, and what a search shows of it.
use Rattle.std.proofs.Common.{◌⊎◌, ℕ, List, inl, inr, arith, Option}
use Rattle.std.specs.List.{Contains}
use Rattle.std.proofs.lemmas.Bool.{cases_lt}
use Rattle.convoy_scenario.specs.Scenario.{Scenario}
use Rattle.convoy_branch.specs.Options.{Settings}
use Rattle.convoy_best_order.specs.declared.excess.Excess.{Excess}
use Rattle.convoy_best_order.specs.declared.spread.Spread.{Spread}
use Rattle.convoy_best_order.specs.declared.target.Target.{Target}
use Rattle.convoy_best_order.specs.Excesses.{IsAtMost}
use Rattle.convoy_best_order.specs.OrderLaws.{IsKeptIn}
use Rattle.convoy_best_order.specs.Orders.{IsOrder}
use Rattle.convoy_best_order.specs.Spreads.{IsSpreadIn, MayStayOpen, least_excess, most_excess}
use Rattle.convoy_best_order.proofs.Asking.{upper_most}

pub kept_more : (span : Option ℕ) (scenario : Scenario) (order : List ℕ) (most more : Excess) (target : Target) → IsAtMost most more → IsKeptIn span scenario order most target
    → IsKeptIn span scenario order more target
kept_more span scenario order most more target low kept = record {
  instance = kept.instance;
  made = kept.made;
  latency = kept.latency;
  upper = kept.upper;
  keeps = let keeps = kept.keeps in omega (arith, keeps, low);
}

pub found_kept : (settings : Settings) (span : Option ℕ) (scenario : Scenario) (order : List ℕ) (target : Target) (spread : Spread) → IsSpreadIn settings span scenario order target spread
    → IsKeptIn span scenario order (most_excess target spread) target
found_kept settings span scenario order target spread found = record {
  instance = found.instance;
  made = found.made;
  latency = spread.most;
  upper = upper_most settings found.instance spread found.found;
  keeps = omega arith;
}

-- a search has found the greatest latency, or it may stay open
pub exact_or_open : (settings : Settings) (span : Option ℕ) (scenario : Scenario) (targets : List Target) (order : List ℕ) (target : Target) (spread : Spread) → Contains targets target
    → IsOrder scenario order → IsSpreadIn settings span scenario order target spread → IsAtMost (most_excess target spread) (least_excess target spread) ⊎ MayStayOpen settings span scenario targets
exact_or_open settings span scenario targets order target spread among is found =
    elim (cases_lt spread.least spread.most) [
      | inl less ↦ inr (record { target = target; of_target = among; order = order; is = is; spread = spread; found = found; is_open = less })
      | inr low ↦ inl (omega (arith, low))
    ]
