-- What `plan --ceiling` writes: the placement of a plan's groups with the least ceilings.
use Rattle.std.specs.Prelude.{◌≡◌, ◌⊎◌, ℕ, Bool, false, List, Option, Some, None, Ok, Err}
use Rattle.std.specs.List.{list_any}
use Rattle.convoy_draft.specs.declared.duration.TimeUnit.{TimeUnit}
use Rattle.convoy_toml.specs.declared.asked.Asked.{Asked}
use Rattle.convoy_toml_writer.specs.Text.{toml_text}
use Rattle.convoy_tables.specs.declared.format.Format.{Format}
use Rattle.convoy_times.specs.Measures.{measure_by}
use Rattle.convoy_plans.specs.Plans.{Plan}
use Rattle.convoy_plans.specs.Reading.{plan_of_text}
use Rattle.convoy_commands.specs.declared.done.Done.{Done}
use Rattle.convoy_commands.specs.Ends.{end_by}
use Rattle.convoy_commands.specs.First.{least_schedule}
use Rattle.convoy_commands.specs.Replies.{Rule}
use Rattle.convoy_survey.specs.Judgements.{is_open_by, verdict_at}
use Rattle.convoy_best_order.specs.declared.wanted.Wanted.{Wanted}
use Rattle.convoy_best_plan.specs.Answers.{IsFaultyPlan, IsUnplaceable}
use Rattle.convoy_plan_ceilings.specs.declared.ceiling_choice.CeilingChoice.{CeilingChoice}
use Rattle.convoy_plan_ceilings.specs.declared.target_ceiling.TargetCeiling.{TargetCeiling}
use Rattle.convoy_plan_ceilings.specs.CeilingTexts.{ceiling_text}
use Rattle.convoy_plan_ceilings.specs.LeastCeilings.{IsLeastCeiling}

-- THE END
-- the ceiling is above the deadline of its target: then it is not known whether some traffic misses it
abbrev pub is_row_open : TargetCeiling → Bool
is_row_open row = is_open_by (verdict_at row.target.deadline None (Some row.ceiling)) false

-- how it ends: the choice itself is never open
abbrev pub end_of : CeilingChoice → Done
end_of chosen = end_by false false (list_any is_row_open chosen.rows.items)

-- THE CHOICE OF A TEXT
-- The text is that of a plan, and this is the placement of it with the least ceilings for the targets that are wanted.
pub record IsLeastOfText (wanted : Wanted) (asked : Asked) (text : List ℕ) (plan : Plan) (chosen : CeilingChoice) : Type 0 where
  pub read : plan_of_text asked text ≡ Ok plan
  pub least : IsLeastCeiling wanted plan chosen

-- THE HEADLINE. What is written is the placement with the least ceilings of the plan that was read, in this format. What its numbers are worth the laws `NoCeilingIsLess` and `ChosenCeilingHolds` say.
pub record IsPlanCeilingTold (format : Format) (wanted : Wanted) (asked : Asked) (unit : Option TimeUnit) (text : List ℕ) (end : Done) (out : List ℕ) : Type 0 where
  pub plan : Plan
  pub chosen : CeilingChoice
  pub told : IsLeastOfText wanted asked text plan chosen
  pub written : out ≡ ceiling_text format (measure_by unit plan.unit chosen.scenario) plan chosen
  pub ends : end ≡ end_of chosen

-- What is written is the text of the scenario of that placement, with the schedule of its least delays; and the end is told as beside the table.
pub record IsCeilingPlacingTold (wanted : Wanted) (asked : Asked) (text : List ℕ) (end : Done) (out : List ℕ) : Type 0 where
  pub plan : Plan
  pub chosen : CeilingChoice
  pub told : IsLeastOfText wanted asked text plan chosen
  pub written : out ≡ toml_text chosen.scenario (least_schedule chosen.scenario)
  pub ends : end ≡ end_of chosen

-- what `plan --ceiling` may answer
abbrev pub PlanCeilingSays : Format → Wanted → Asked → Option TimeUnit → Rule
PlanCeilingSays format wanted asked unit text (Ok (end, out)) = IsPlanCeilingTold format wanted asked unit text end out
PlanCeilingSays format wanted asked unit text (Err fault) = IsFaultyPlan asked text fault ⊎ IsUnplaceable asked text fault

-- and where the scenario is to be written
abbrev pub CeilingPlacingSays : Wanted → Asked → Rule
CeilingPlacingSays wanted asked text (Ok (end, out)) = IsCeilingPlacingTold wanted asked text end out
CeilingPlacingSays wanted asked text (Err fault) = IsFaultyPlan asked text fault ⊎ IsUnplaceable asked text fault
