-- Rows of a survey, each with a number that no latency of its target exceeds through outages.
use Rattle.std.specs.Prelude.{◌≡◌, ℕ, ◌≤◌, List, map, Option, Result, IfOk}
use Rattle.std.specs.List.{All}
use Rattle.std.specs.declared.alloc.AllocError.{AllocError}
use Rattle.convoy_scenario.specs.Scenario.{Scenario}
use Rattle.convoy_outage_runs.specs.OutageRuns.{IsUpperOfRuns}
use Rattle.convoy_branch.specs.Options.{Settings}
use Rattle.convoy_survey.specs.declared.finding.Surveyed.{Surveyed}
use Rattle.convoy_survey.specs.Ceilings.{told_latency}
use Rattle.convoy_survey.specs.Findings.{scenario_at}
use Rattle.convoy_survey.specs.Surveys.{AreSurveyed}
use Rattle.convoy_outage_answers.specs.declared.row_through.RowThrough.{RowThrough}
use Rattle.convoy_outage_answers.specs.Latencies.{outage_ceiling_of}

-- what may be answered where the latency of a message at a group through outages of so many ticks in all is asked, around that target where a span is given: a number that it exceeds in no run through them, no greater than the ceiling through them; or, as with each command, that memory ran out
abbrev pub MayLast : ℕ → Option ℕ → Scenario → ℕ → ℕ → Result ℕ AllocError → Type 0
MayLast outage span scenario m g answer =
    IfOk answer (IsUpperOfRuns outage (scenario_at span scenario m g)) × IfOk answer (λ through. through ≤ outage_ceiling_of outage (scenario_at span scenario m g))

-- The row tells what was answered for its target: so it tells no number just where the answer was that memory ran out.
pub record IsRowThrough (outage : ℕ) (span : Option ℕ) (scenario : Scenario) (row : RowThrough) : Type 0 where
  pub answer : Result ℕ AllocError
  pub given : MayLast outage span scenario row.surveyed.message row.surveyed.group answer
  pub told : row.through ≡ told_latency answer

-- the rows without these numbers
abbrev pub surveyed_of : List RowThrough → List Surveyed
surveyed_of rows = map (λ row. row.surveyed) rows

-- They are the rows of a survey with these settings, and each tells what was answered for its target.
pub record AreRowsThrough (settings : Settings) (outage : ℕ) (span : Option ℕ) (scenario : Scenario) (rows : List RowThrough) : Type 0 where
  pub surveyed : AreSurveyed settings span scenario (surveyed_of rows)
  pub told : All (IsRowThrough outage span scenario) rows

-- PRIVATE
-- The row is that one of the survey, and tells what was answered for its target.
pub record TellsThrough (outage : ℕ) (span : Option ℕ) (scenario : Scenario) (surveyed : Surveyed) (row : RowThrough) : Type 0 where
  pub of_row : row.surveyed ≡ surveyed
  pub told : IsRowThrough outage span scenario row
