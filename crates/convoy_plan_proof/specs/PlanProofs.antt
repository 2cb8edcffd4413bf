-- What is made of a plan: a certificate of its best choice, which the checker accepts.
use Rattle.std.specs.Prelude.{◌≡◌, ◌⊎◌, ℕ, ⊤, List, [], ◌∷◌, ◌++◌, codes, Ok, Err}
use Rattle.convoy_toml.specs.declared.asked.Asked.{Asked}
use Rattle.convoy_plans.specs.Placements.{IsPlacement}
use Rattle.convoy_plans.specs.Plans.{Plan}
use Rattle.convoy_plans.specs.Reading.{plan_of_text}
use Rattle.convoy_commands.specs.declared.done.Done.{Done}
use Rattle.convoy_commands.specs.declared.done.Done.TheVariants as ends
use Rattle.convoy_commands.specs.Replies.{Rule}
use Rattle.convoy_best_order.specs.declared.wanted.Wanted.{Wanted}
use Rattle.convoy_best_plan.specs.Answers.{IsFaultyPlan, IsUnplaceable}
use Rattle.convoy_best_plan.specs.BestPlans.{HasNoScenario}
use Rattle.convoy_plan_certificate.specs.declared.plan_certificate.PlanCertificate.{PlanCertificate}
use Rattle.convoy_plan_certificate.specs.PlanTexts.{plan_certificate_text}
use Rattle.convoy_plan_checker.specs.PlanCheckLaws.{IsBestChoice}
use Rattle.convoy_plan_checker.specs.PlanValidity.{IsValidPlan}
use Rattle.convoy_plan_proof.specs.declared.proving.PlanProof.{PlanProof}
use Rattle.convoy_plan_proof.specs.declared.proving.PlanProof.TheVariants.{Proved, Unplaceable, Open, TooLarge, Refused}

-- PROOFS
-- The text is that of a valid certificate of the plan for the targets that are wanted, and so its choice is the best one.
pub record IsProofOf (wanted : Wanted) (plan : Plan) (text : List ℕ) : Type 0 where
  pub certificate : PlanCertificate
  pub written : text ≡ plan_certificate_text certificate
  pub valid : IsValidPlan wanted plan certificate
  pub best : IsBestChoice wanted plan certificate

-- what may come of a plan: a text that proves its best choice, or that no placement has a scenario; of what is not proved nothing is said
abbrev pub IsPlanProof : Wanted → Plan → PlanProof → Type 0
IsPlanProof wanted plan (Proved text) = IsProofOf wanted plan text.items
IsPlanProof wanted plan Unplaceable = (placement : List ℕ) → IsPlacement plan placement → HasNoScenario plan placement
IsPlanProof wanted plan Open = ⊤
IsPlanProof wanted plan TooLarge = ⊤
IsPlanProof wanted plan (Refused refusal) = ⊤

-- ANSWERS
-- What is written is a certificate of the plan that was read.
pub record IsPlanProved (wanted : Wanted) (asked : Asked) (text : List ℕ) (end : Done) (out : List ℕ) : Type 0 where
  pub plan : Plan
  pub read : plan_of_text asked text ≡ Ok plan
  pub proof : IsProofOf wanted plan out
  pub ends : end ≡ ends.Fine

-- what is written where there is none
abbrev pub unproved_line : List ℕ
unproved_line = codes "not proved" ++ 10 ∷ []

-- there is none
abbrev pub IsUnproved : Done → List ℕ → Type 0
IsUnproved end out = (end ≡ ends.Open) × (out ≡ unproved_line)

-- what `plan` may answer where it is asked for a certificate
abbrev pub PlanProofSays : Wanted → Asked → Rule
PlanProofSays wanted asked text (Ok (end, out)) = IsPlanProved wanted asked text end out ⊎ IsUnproved end out
PlanProofSays wanted asked text (Err fault) = IsFaultyPlan asked text fault ⊎ IsUnplaceable asked text fault
