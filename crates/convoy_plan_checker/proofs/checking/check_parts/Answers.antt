use Rattle.std.proofs.Common.{◌≡◌, Option, Ok, subst}
use Rattle.std.specs.Prelude.{IfSome}
use Rattle.convoy_scenario.specs.Scenario.{Scenario}
use Rattle.convoy_plans.specs.Placements.{scenario_at}
use Rattle.convoy_plan_checker.proofs.Stepping.{right_here}
use Rattle.convoy_plan_checker.proofs.checking.check_parts.Goals as goal

pub returns-in-Some-clause-only : goal.returns-in-Some-clause-only
returns-in-Some-clause-only c = λ valid.
    c.check_choice.ensures.only
    (right_here c.args.wanted c.args.plan.now c.args.certificate.now c.in-Some.scenario
    (subst (λ (o : Option Scenario). IfSome o (λ (s : Scenario). scenario_at c.args.plan.now c.args.certificate.now.placement.items ≡ Ok s)) c.in-Some.is
    c.in_ok-made.ensures.some)
    valid)
