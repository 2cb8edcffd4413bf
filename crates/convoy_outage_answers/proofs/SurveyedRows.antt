-- The rows of a survey through outages are of the scenario's targets.
use Rattle.std.proofs.Common.{All, ◌≡◌, ◌≤◌, ℕ, List, Option, Some, None, IfOk, ap, refl, sym, subst, ◌∙◌}
use Rattle.convoy_around.specs.AroundLaws.{AroundForgetsTargets}
use Rattle.convoy_scenario.specs.Scenario.{Scenario}
use Rattle.convoy_scenario.specs.Targets.{targets_of}
use Rattle.convoy_scenario.specs.WidenedLaws.{RoomIsDecided}
use Rattle.convoy_outage_runs.specs.OutageRuns.{IsUpperOfRuns}
use Rattle.convoy_branch.specs.Options.{Settings}
use Rattle.convoy_survey.specs.declared.finding.Surveyed.{Surveyed}
use Rattle.convoy_survey.specs.Findings.{scenario_at, target_of}
use Rattle.convoy_survey.specs.Surveys.{AreSurveyed, IsTargetPair, with_rows}
use Rattle.convoy_survey.proofs.OneMessage.{All-from_map}
use Rattle.convoy_outage_answers.specs.declared.row_through.RowThrough.{RowThrough}
use Rattle.convoy_outage_answers.specs.Latencies.{outage_ceiling_of}
use Rattle.convoy_outage_answers.specs.RowsThrough.{AreRowsThrough, IsRowThrough, surveyed_of}
use Rattle.convoy_outage_answers.proofs.EachTarget.{targets_lawful}

-- each row of a survey is of a target
pub rows_have_targets : RoomIsDecided → (settings : Settings) (span : Option ℕ) (scenario still : Scenario) (rows : List Surveyed) →
    still ≡ with_rows span scenario → AreSurveyed settings span scenario rows → All (λ (row : Surveyed). IsTargetPair still (target_of row)) rows
rows_have_targets decided settings span scenario still rows is are =
    All-from_map (IsTargetPair still) target_of rows
    (subst (All (IsTargetPair still)) (ap targets_of is ∙ sym are.targets) (targets_lawful decided still))

-- around a target the scenario in which none waits is what the scenario itself is
same_asked : AroundForgetsTargets → (span : Option ℕ) (scenario : Scenario) (m g : ℕ) → scenario_at span (with_rows span scenario) m g ≡ scenario_at span scenario m g
same_asked forgets None scenario m g = refl
same_asked forgets (Some n) scenario m g = forgets n 0 scenario scenario.target_message scenario.target_group m g

-- so a row tells the same of both
same_row : AroundForgetsTargets → (outage : ℕ) (span : Option ℕ) (scenario still : Scenario) → still ≡ with_rows span scenario →
    (row : RowThrough) → IsRowThrough outage span still row → IsRowThrough outage span scenario row
same_row forgets outage span scenario still is row told =
    let m : ℕ = row.surveyed.message in
    let g : ℕ = row.surveyed.group in
    let same : scenario_at span still m g ≡ scenario_at span scenario m g =
    ap (λ (s : Scenario). scenario_at span s m g) is ∙ same_asked forgets span scenario m g in
    record {
      answer = told.answer;
      given =
          subst (λ (asked : Scenario). IfOk told.answer (IsUpperOfRuns outage asked) × IfOk told.answer (λ through. through ≤ outage_ceiling_of outage asked)) same
          told.given;
      told = told.told;
    }

pub rows_of_survey : AroundForgetsTargets → (settings : Settings) (outage : ℕ) (span : Option ℕ) (scenario still : Scenario) (surveyed : List Surveyed) (rows : List RowThrough) →
    still ≡ with_rows span scenario → AreSurveyed settings span scenario surveyed → surveyed_of rows ≡ surveyed → All (IsRowThrough outage span still) rows →
    AreRowsThrough settings outage span scenario rows
rows_of_survey forgets settings outage span scenario still surveyed rows is are of told = record {
  surveyed = subst (AreSurveyed settings span scenario) (sym of) are;
  told = λ k d small. same_row forgets outage span scenario still is _ (told k d small);
}
