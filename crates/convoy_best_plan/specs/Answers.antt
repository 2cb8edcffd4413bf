-- What `plan` writes: the best choice of a plan, or several choices.
use Rattle.std.specs.Prelude.{◌≡◌, ◌⊎◌, ℕ, max, Bool, false, ◌&&◌, ◌||◌, not, List, [], ◌∷◌, ◌++◌, map, Option, Some, None, Result, Ok, Err}
use Rattle.std.specs.List.{list_any}
use Rattle.convoy_scenario.specs.Scenario.{Scenario}
use Rattle.convoy_toml.specs.declared.asked.Asked.{Asked}
use Rattle.convoy_toml_writer.specs.Text.{toml_text}
use Rattle.convoy_branch.specs.Options.{Settings}
use Rattle.convoy_tables.specs.declared.format.Format.{Format}
use Rattle.convoy_times.specs.Measures.{measure_by}
use Rattle.convoy_plans.specs.declared.fault.PlanFault.{PlanFault}
use Rattle.convoy_plans.specs.declared.fault.PlanFault.TheVariants.{NoPlacement}
use Rattle.convoy_plans.specs.Placements.{IsPlacement}
use Rattle.convoy_plans.specs.Plans.{Plan}
use Rattle.convoy_plans.specs.Reading.{plan_of_text}
use Rattle.convoy_commands.specs.declared.done.Done.{Done}
use Rattle.convoy_commands.specs.declared.fault.Fault.{Fault}
use Rattle.convoy_commands.specs.declared.fault.Fault.TheVariants as faults
use Rattle.convoy_commands.specs.Ends.{end_by}
use Rattle.convoy_commands.specs.Faults.{told_of_plan}
use Rattle.convoy_commands.specs.First.{least_schedule}
use Rattle.convoy_commands.specs.Replies.{Rule}
use Rattle.convoy_best_order.specs.declared.wanted.Wanted.{Wanted}
use Rattle.convoy_best_order.specs.Answers.{is_row_beyond, is_row_open}
use Rattle.convoy_best_order.specs.Excesses.{is_less}
use Rattle.convoy_best_order.specs.Orders.{listed}
use Rattle.convoy_best_order.specs.Targets.{are_judged}
use Rattle.convoy_best_plan.specs.declared.planned.Planned.{Planned}
use Rattle.convoy_best_plan.specs.BestPlans.{AreBestPlans, HasNoScenario, IsBestPlan}
use Rattle.convoy_best_plan.specs.PlanTexts.{as_told, plan_text, ranking_text}

-- THE END
-- it is not known whether the choice is the best: that is no matter where there are deadlines, since then all that counts is whether they are kept
abbrev pub is_choice_open : Planned → Bool
is_choice_open planned = not (are_judged planned.targets.items) && is_less planned.floor.least planned.best.most

-- a deadline is missed in it
abbrev pub is_beyond : Planned → Bool
is_beyond planned = list_any is_row_beyond planned.best.rows.items

-- something of it is open
abbrev pub is_open : Planned → Bool
is_open planned = list_any is_row_open planned.best.rows.items || is_choice_open planned

-- how it ends: that a deadline is missed comes before what is open
abbrev pub end_of : Planned → Done
end_of planned = end_by (is_beyond planned) false (is_open planned)

-- the same of several choices
abbrev pub end_of_all : List Planned → Done
end_of_all all = end_by (list_any is_beyond all) false (list_any is_open all)

-- THE CHOICE OF A TEXT
-- The text is that of a plan, and this is the best choice of it for the targets that are wanted.
pub record IsBestOfText (wanted : Wanted) (asked : Asked) (settings : Settings) (text : List ℕ) (plan : Plan) (planned : Planned) : Type 0 where
  pub read : plan_of_text asked text ≡ Ok plan
  pub best : IsBestPlan settings wanted plan [] planned

-- The text is that of a plan, and these are so many of its best choices, and the best one at least; or fewer, where no further placement has a scenario.
pub record AreBestOfText (wanted : Wanted) (first : ℕ) (asked : Asked) (settings : Settings) (text : List ℕ) (plan : Plan) (all : List Planned) : Type 0 where
  pub read : plan_of_text asked text ≡ Ok plan
  pub best : AreBestPlans settings wanted plan (max first 1) all

-- THE HEADLINE. What is written is the best choice of the plan that was read, in this format. What its numbers are worth the laws `NoChoiceIsBetter` and `ChoiceKeeps` say.
pub record IsPlanTold (format : Format) (wanted : Wanted) (with_reasons : Bool) (asked : Asked) (settings : Settings) (text : List ℕ) (end : Done) (out : List ℕ) : Type 0 where
  pub plan : Plan
  pub planned : Planned
  pub told : IsBestOfText wanted asked settings text plan planned
  pub written : out ≡ plan_text format with_reasons (measure_by settings.unit plan.unit planned.scenario) plan (as_told planned)
  pub ends : end ≡ end_of planned

-- What is written is so many of the best choices of the plan that was read, the best first, in this format.
pub record IsRankingTold (format : Format) (wanted : Wanted) (with_reasons : Bool) (first : ℕ) (asked : Asked) (settings : Settings) (text : List ℕ) (end : Done) (out : List ℕ) : Type 0 where
  pub plan : Plan
  pub best : Planned
  pub others : List Planned
  pub told : AreBestOfText wanted first asked settings text plan (best ∷ others)
  pub written : out ≡ ranking_text format with_reasons settings.unit plan (as_told best) (map as_told others)
  pub ends : end ≡ end_of_all (best ∷ others)

-- What is written is the text of the scenario of the last of these choices, with its groups in their best order, and with the schedule of its least delays; and the end is told as beside the table.
pub record IsPlacingTold (wanted : Wanted) (first : ℕ) (asked : Asked) (settings : Settings) (text : List ℕ) (end : Done) (out : List ℕ) : Type 0 where
  pub plan : Plan
  pub ahead : List Planned
  pub planned : Planned
  pub other : Scenario
  pub told : AreBestOfText wanted first asked settings text plan (ahead ++ planned ∷ [])
  pub made : listed planned.scenario planned.best.order.items ≡ Ok other
  pub written : out ≡ toml_text other (least_schedule other)
  pub ends : end ≡ end_of_all (ahead ++ planned ∷ [])

-- FAULTS
-- the text has this fault as that of a plan
pub record IsFaultyPlan (asked : Asked) (text : List ℕ) (fault : Fault) : Type 0 where
  pub cause : PlanFault
  pub found : plan_of_text asked text ≡ Err cause
  pub told : fault ≡ told_of_plan cause

-- the text is that of a plan of which no placement has a scenario
pub record IsUnplaceable (asked : Asked) (text : List ℕ) (fault : Fault) : Type 0 where
  pub plan : Plan
  pub read : plan_of_text asked text ≡ Ok plan
  pub none : (placement : List ℕ) → IsPlacement plan placement → HasNoScenario plan placement
  pub told : fault ≡ faults.Plan NoPlacement

-- what is written: the best choice, or, where so many are asked for, the best ones
abbrev pub IsChoiceTold : Format → Wanted → Bool → Option ℕ → Asked → Settings → List ℕ → Done → List ℕ → Type 0
IsChoiceTold format wanted with_reasons None asked settings text end out = IsPlanTold format wanted with_reasons asked settings text end out
IsChoiceTold format wanted with_reasons (Some first) asked settings text end out = IsRankingTold format wanted with_reasons first asked settings text end out

-- what `plan` may answer
abbrev pub PlanSays : Format → Wanted → Bool → Option ℕ → Asked → Settings → Rule
PlanSays format wanted with_reasons first asked settings text (Ok (end, out)) = IsChoiceTold format wanted with_reasons first asked settings text end out
PlanSays format wanted with_reasons first asked settings text (Err fault) = IsFaultyPlan asked text fault ⊎ IsUnplaceable asked text fault

-- and where the scenario is to be written
abbrev pub PlacingSays : Wanted → ℕ → Asked → Settings → Rule
PlacingSays wanted first asked settings text (Ok (end, out)) = IsPlacingTold wanted first asked settings text end out
PlacingSays wanted first asked settings text (Err fault) = IsFaultyPlan asked text fault ⊎ IsUnplaceable asked text fault
