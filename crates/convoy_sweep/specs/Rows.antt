-- The rows of a sweep: what a search finds at each of its points.
use Rattle.std.specs.Prelude.{◌≡◌, List, IfOk, Result}
use Rattle.std.specs.List.{AllZip}
use Rattle.std.specs.declared.alloc.AllocError.{AllocError}
use Rattle.convoy_branch.specs.Options.{Settings}
use Rattle.convoy_survey.specs.declared.finding.Finding.{Finding}
use Rattle.convoy_survey.specs.Findings.{IsFinding, told_finding}
use Rattle.convoy_sweep.specs.declared.kinds.Swept.{Swept}
use Rattle.convoy_sweep.specs.declared.preparing.Made.{Made}

-- The row tells what a search with these settings answered for the scenario at its point: what it finds there, or, as with each command, that memory ran out.
pub record IsSwept (settings : Settings) (made : Made) (row : Swept) : Type 0 where
  pub answer : Result Finding AllocError
  pub at : row.point ≡ made.point
  pub given : IfOk answer (IsFinding settings made.scenario)
  pub told : row.finding ≡ told_finding answer

-- there is a row for each point, in their order
abbrev pub AreSwept : Settings → List Made → List Swept → Type 0
AreSwept settings made rows = AllZip (IsSwept settings) made rows
