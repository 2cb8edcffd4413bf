-- What leads leave open of a box: the first case that they do not show to be none, and the chain by which a stamp of the target may exceed the rival's there. A search goes by it where it splits a box; no promise rests on it.
use Rattle.std.specs.Prelude.{◌≡◌, ◌<◌, Bool, true, false, length, All}
use Rattle.convoy_draft.specs.declared.limits.TheConstants.{MOST_GROUPS}
use Rattle.convoy_scenario.specs.Scenario.{Scenario}
use Rattle.convoy_sure.specs.Windows.{tables_by}
use Rattle.convoy_starts.specs.Links.{IsLink}
use Rattle.convoy_leads.specs.Closing.{is_behind}
use Rattle.convoy_leads.specs.declared.open_case.OpenCase.{OpenCase}
use Rattle.convoy_leads.specs.declared.opening.Opening.{Opening}
use Rattle.convoy_leads.specs.declared.shown.Shown.{Shown}
use Rattle.convoy_leads.specs.declared.shown.Shown.TheVariants.{Closed, TargetLate, Open}

-- the rival is not shown to be behind the target in the windows of the case
pub record IsOpenCase (scenario : Scenario) (case : OpenCase) : Type 0 where
  pub rival : case.rival < length scenario.multicasts
  pub rival_by : case.rival_by < MOST_GROUPS
  pub target_by : case.target_by < MOST_GROUPS
  pub not_behind : is_behind scenario (tables_by case.windows) case.rival ≡ false

-- the case is open, and its chain is of such links
pub record IsOpening (scenario : Scenario) (opening : Opening) : Type 0 where
  pub case : IsOpenCase scenario opening.case
  pub links : All (IsLink scenario) opening.links.items

-- whether leads show that the box is closed
abbrev pub is_closed : Shown → Bool
is_closed Closed = true
is_closed TargetLate = false
is_closed (Open case) = false

-- a case that is shown is open
abbrev pub IsShown : Scenario → Shown → Type 0
IsShown scenario Closed = Unit {0}
IsShown scenario TargetLate = Unit {0}
IsShown scenario (Open case) = IsOpenCase scenario case
