-- What is proved of certificates of plans. Each is the one clause of the function of its name in the crate's module `plan_check_laws`.
use Rattle.std.specs.Prelude.{◌≡◌, ℕ, List, Ok}
use Rattle.convoy_scenario.specs.Scenario.{Scenario}
use Rattle.convoy_sim.specs.Greatest.{IsGreatest}
use Rattle.convoy_certificate.specs.Certificate.{Certificate, IsCertificate}
use Rattle.convoy_plans.specs.Placements.{IsPlacement, scenario_at}
use Rattle.convoy_plans.specs.Plans.{IsPlan, Plan}
use Rattle.std.specs.List.{All, AllZip}
use Rattle.convoy_best_order.specs.declared.target.Target.{Target}
use Rattle.convoy_best_order.specs.declared.wanted.Wanted.{Wanted}
use Rattle.convoy_best_order.specs.Excesses.{IsGreatestOf}
use Rattle.convoy_best_order.specs.Orders.{IsOrder, listed}
use Rattle.convoy_best_order.specs.Targets.{asked_of}
use Rattle.convoy_best_plan.specs.declared.floor.Floor.{Floor}
use Rattle.convoy_best_plan.specs.BestPlans.{IsNotBelow, targets_by}
use Rattle.convoy_best_plan.specs.Totals.{total_of}
use Rattle.convoy_plan_certificate.specs.declared.plan_certificate.PlanCertificate.{PlanCertificate}
use Rattle.convoy_plan_checker.specs.PlanValidity.{IsValidPlan, excesses_of}

-- With the groups in that order the latency of the certificate is the greatest of the target.
pub record IsGreatestIn (scenario : Scenario) (order : List ℕ) (target : Target) (certificate : Certificate) : Type 0 where
  pub instance : Scenario
  pub made : listed (asked_of scenario target) order ≡ Ok instance
  pub greatest : IsGreatest instance certificate.latency

-- The placement is one of the plan and has this scenario, and the order is one of its groups. There the latencies are the greatest ones of the targets that count, `floor` has the greatest excess of these over the limits, and the total of the placement; and no choice of the plan is below that floor: each has a greater excess, or the same and no lesser total.
pub record IsBestChoice (wanted : Wanted) (plan : Plan) (certificate : PlanCertificate) : Type 0 where
  pub scenario : Scenario
  pub floor : Floor
  pub placement : IsPlacement plan certificate.placement.items
  pub made : scenario_at plan certificate.placement.items ≡ Ok scenario
  pub order : IsOrder scenario certificate.order.items
  pub latencies : AllZip (IsGreatestIn scenario certificate.order.items) (targets_by wanted plan scenario) certificate.shown.items
  pub excess : IsGreatestOf (excesses_of (targets_by wanted plan scenario) certificate.shown.items) floor.least
  pub total : floor.ties ≡ total_of scenario
  pub none_below : (other : List ℕ) → IsPlacement plan other → IsNotBelow wanted plan floor other

-- The choice of a valid certificate is the best one, whoever made the certificate.
abbrev pub ValidIsBest : Type 0
ValidIsBest =
    (wanted : Wanted) (plan : Plan) (certificate : PlanCertificate)
    → IsPlan plan → All IsCertificate certificate.shown.items → IsValidPlan wanted plan certificate
    → IsBestChoice wanted plan certificate
