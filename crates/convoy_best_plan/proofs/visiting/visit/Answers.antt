use Rattle.std.proofs.Common.{◌≡◌, Option, Some, None, IfNone, subst}
use Rattle.convoy_scenario.specs.Scenario.{Scenario}
use Rattle.convoy_best_plan.specs.BestPlans.{HasNoScenario}
use Rattle.convoy_best_plan.proofs.Found.{fallen_self, passed_without}
use Rattle.convoy_best_plan.proofs.visiting.visit.Goals as goal

-- what holds where there is none
without : (made : Option Scenario) (P : Type 0) → made ≡ None → IfNone made P → P
without None P is holds = holds
without (Some scenario) P is holds = absurd cc

pub returns-in-Some : goal.returns-in-Some
returns-in-Some g c = record { standing = c.visit_scenario.ensures.standing; fallen = c.visit_scenario.ensures.fallen; passed = c.visit_scenario.ensures.passed }

pub returns-in-None : goal.returns-in-None
returns-in-None g c = record {
  standing = c.requires.standing;
  fallen = fallen_self c.args.standing.chosen;
  passed = passed_without c.args.wanted c.args.plan.now c.args.standing.chosen c.args.placement.items
      (subst (HasNoScenario c.args.plan.now) c.deref.ensures.value (without _ (HasNoScenario c.args.plan.now c.deref.result.now) c.in-None.is c.in_ok-scenario.ensures.none));
}
