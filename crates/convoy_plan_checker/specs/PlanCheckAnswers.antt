-- What `check --plan` answers: the text is that of a plan, and below it that of a certificate of the plan.
use Rattle.std.specs.Prelude.{◌≡◌, ◌⊎◌, ℕ, ◌-◌, ◌<◌, ◌==◌, nat_eq, Bool, ◌&&◌, List, [], ◌∷◌, ◌++◌, length, take, drop, slice_index_or, codes, Ok, Err, IsTrue, IsFalse}
use Rattle.std.specs.List.{starts_with}
use Rattle.convoy_toml.specs.declared.asked.Asked.{Asked}
use Rattle.convoy_plans.specs.Plans.{Plan}
use Rattle.convoy_plans.specs.Reading.{plan_of_text}
use Rattle.convoy_commands.specs.declared.done.Done.{Done}
use Rattle.convoy_commands.specs.declared.done.Done.TheVariants as ends
use Rattle.convoy_commands.specs.declared.fault.Fault.{Fault}
use Rattle.convoy_commands.specs.Refusals.{refused_line}
use Rattle.convoy_commands.specs.Replies.{Rule}
use Rattle.convoy_best_order.specs.declared.wanted.Wanted.{Wanted}
use Rattle.convoy_best_plan.specs.Answers.{IsFaultyPlan}
use Rattle.convoy_plan_certificate.specs.declared.plan_certificate.PlanCertificate.{PlanCertificate}
use Rattle.convoy_plan_certificate.specs.PlanTexts.{plan_certificate_text}
use Rattle.convoy_plan_checker.specs.declared.plan_refusal.PlanRefusal.{PlanRefusal}
use Rattle.convoy_plan_checker.specs.PlanCheckLaws.{IsBestChoice}
use Rattle.convoy_plan_checker.specs.PlanValidity.{IsValidPlan}
use Rattle.convoy_plan_checker.specs.RefusalLines.{row_of_refusal}

-- PARTS
-- the first line of certificates of plans
abbrev pub first_line : List ℕ
first_line = codes "convoy plan 1" ++ 10 ∷ []

-- a line begins behind this text: it ends one, or is empty
abbrev pub ends_line : List ℕ → Bool
ends_line above = slice_index_or above (length above - 1) 10 == 10

-- the text begins with that first line
abbrev pub is_headed : List ℕ → Bool
is_headed below = starts_with nat_eq below first_line

-- a certificate begins at that place of a text: a line begins there, and is that first line
abbrev pub begins_at : List ℕ → ℕ → Bool
begins_at text place = ends_line (take place text) && is_headed (drop place text)

-- The text is parted at the first place where a certificate begins, or else at its end.
pub record IsParted (text above below : List ℕ) : Type 0 where
  pub parts : text ≡ above ++ below
  pub first : (place : ℕ) → place < length above → IsFalse (begins_at text place)
  pub begins : (length below ≡ 0) ⊎ IsTrue (begins_at text (length above))

-- ANSWERS
-- The text has the text of that plan above, and the other one below.
pub record IsBelow (asked : Asked) (text : List ℕ) (plan : Plan) (below : List ℕ) : Type 0 where
  pub above : List ℕ
  pub parted : IsParted text above below
  pub read : plan_of_text asked above ≡ Ok plan

-- what is written for a certificate that is accepted
abbrev pub accepted_plan_line : List ℕ
accepted_plan_line = codes "accepted" ++ 10 ∷ []

-- THE HEADLINE. `check --plan` accepts: what stands below the plan is the text of a valid certificate of it, for the targets that are wanted, and the choice that it names is the best.
pub record IsPlanAccepted (wanted : Wanted) (asked : Asked) (text : List ℕ) (end : Done) (out : List ℕ) : Type 0 where
  pub plan : Plan
  pub certificate : PlanCertificate
  pub stands : IsBelow asked text plan (plan_certificate_text certificate)
  pub valid : IsValidPlan wanted plan certificate
  pub best : IsBestChoice wanted plan certificate
  pub written : out ≡ accepted_plan_line
  pub ends : end ≡ ends.Fine

-- What stands below the plan is refused.
pub record IsPlanDenied (asked : Asked) (text : List ℕ) (end : Done) (out : List ℕ) : Type 0 where
  pub plan : Plan
  pub below : List ℕ
  pub refusal : PlanRefusal
  pub stands : IsBelow asked text plan below
  pub written : out ≡ refused_line (row_of_refusal refusal)
  pub ends : end ≡ ends.PlanRefused

-- What stands above has this fault as that of a plan.
pub record IsFaultyAbove (asked : Asked) (text : List ℕ) (fault : Fault) : Type 0 where
  pub above : List ℕ
  pub below : List ℕ
  pub parted : IsParted text above below
  pub faulty : IsFaultyPlan asked above fault

-- what `check --plan` may answer
abbrev pub PlanCheckSays : Wanted → Asked → Rule
PlanCheckSays wanted asked text (Ok (end, out)) = IsPlanAccepted wanted asked text end out ⊎ IsPlanDenied asked text end out
PlanCheckSays wanted asked text (Err fault) = IsFaultyAbove asked text fault
