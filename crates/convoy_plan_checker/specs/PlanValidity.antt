-- What makes a certificate of a plan valid.
use Rattle.std.specs.Prelude.{◌≡◌, ℕ, List, [], ◌∷◌, fold, Ok, IsTrue}
use Rattle.convoy_scenario.specs.Scenario.{Scenario}
use Rattle.convoy_certificate.specs.Certificate.{Certificate}
use Rattle.convoy_checker.specs.Validity.{IsValid}
use Rattle.convoy_plans.specs.Placements.{IsPlacement, scenario_at}
use Rattle.convoy_plans.specs.Plans.{Plan}
use Rattle.convoy_best_order.specs.declared.excess.Excess.{Excess}
use Rattle.convoy_best_order.specs.declared.target.Target.{Target}
use Rattle.convoy_best_order.specs.declared.wanted.Wanted.{Wanted}
use Rattle.convoy_best_order.specs.Excesses.{greater}
use Rattle.convoy_best_order.specs.Orders.{listed}
use Rattle.convoy_best_order.specs.Targets.{asked_of, limit_of}
use Rattle.convoy_best_plan.specs.BestPlans.{targets_by}
use Rattle.convoy_best_plan.specs.Totals.{total_of}
use Rattle.convoy_plan_certificate.specs.declared.plan_certificate.PlanCertificate.{PlanCertificate}
use Rattle.convoy_plan_checker.specs.Lateness.{is_order}
use Rattle.convoy_plan_checker.specs.Sites.{no_sites}
use Rattle.convoy_plan_checker.specs.Trees.{AreTrees, Claim}

-- THE CHOICE
-- The certificate is that of the scenario that asks for the latency of the target with the groups in that order, and is valid: so its latency is the greatest of that scenario.
pub record IsShown (scenario : Scenario) (order : List ℕ) (target : Target) (certificate : Certificate) : Type 0 where
  pub made : listed (asked_of scenario target) order ≡ Ok certificate.scenario
  pub valid : IsValid certificate

-- There is one for each target, in their order.
abbrev pub AreShown : Scenario → List ℕ → List Target → List Certificate → Type 0
AreShown scenario order [] [] = Unit {0}
AreShown scenario order (target ∷ targets) (certificate ∷ certificates) =
    IsShown scenario order target certificate × AreShown scenario order targets certificates
AreShown scenario order targets certificates = ⊥

-- by how much the latencies of the certificates exceed the limits of the targets
abbrev pub excesses_of : List Target → List Certificate → List Excess
excesses_of (target ∷ targets) (certificate ∷ certificates) =
    record { latency = certificate.latency; limit = limit_of target } ∷ excesses_of targets certificates
excesses_of targets certificates = []

-- the greatest of some excesses
abbrev pub greatest_of : List Excess → Excess
greatest_of [] = record { latency = 0; limit = 0 }
greatest_of (excess ∷ excesses) = fold greater excess excesses

-- THE CLAIM
-- that no choice is below the one with this scenario, these targets and these certificates: none has a lesser greatest excess, or the same and a lesser total
abbrev pub claim_with : Wanted → Scenario → List Target → List Certificate → Claim
claim_with wanted scenario targets certificates = record {
  wanted = wanted;
  scenario = scenario;
  targets = targets;
  floor = record { least = greatest_of (excesses_of targets certificates); ties = total_of scenario };
}

-- the same for the targets that count
abbrev pub claim_of : Wanted → Plan → Scenario → List Certificate → Claim
claim_of wanted plan scenario certificates = claim_with wanted scenario (targets_by wanted plan scenario) certificates

-- With the scenario of the placement: the order is one of its groups, the certificates are those of the targets that count, and the nodes are one tree over all placements, each of them right for the claim.
pub record IsRightChoice (wanted : Wanted) (plan : Plan) (scenario : Scenario) (certificate : PlanCertificate) : Type 0 where
  pub order : IsTrue (is_order scenario certificate.order.items)
  pub shown : AreShown scenario certificate.order.items (targets_by wanted plan scenario) certificate.shown.items
  pub tree : AreTrees plan (claim_of wanted plan scenario certificate.shown.items) (no_sites plan ∷ []) certificate.nodes.items

-- The placement is one of the plan, and all that is right with its scenario. That the choice is the best is not said here: it follows (`ValidIsBest`).
pub record IsValidPlan (wanted : Wanted) (plan : Plan) (certificate : PlanCertificate) : Type 0 where
  pub placement : IsPlacement plan certificate.placement.items
  pub scenario : Scenario
  pub made : scenario_at plan certificate.placement.items ≡ Ok scenario
  pub right : IsRightChoice wanted plan scenario certificate
