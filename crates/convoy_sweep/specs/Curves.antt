-- What `sweep` draws: the curve of the greatest latency over the values of one key of the text.
use Rattle.std.specs.Prelude.{◌≡◌, ◌⊎◌, ℕ, Bool, List, ◌++◌, map, codes, Option, None, Ok, Err}
use Rattle.convoy_curve.specs.declared.curve.Curve.{Curve}
use Rattle.convoy_curve.specs.declared.curve.Dot.{Dot}
use Rattle.convoy_curve.specs.Curves.{IsCurve}
use Rattle.convoy_draft.specs.declared.fault.ScenarioFault.TheVariants.{Memory}
use Rattle.convoy_scenario.specs.Scenario.{Scenario, group_name_at}
use Rattle.convoy_toml.specs.declared.asked.Asked.{Asked}
use Rattle.convoy_branch.specs.Options.{Settings}
use Rattle.convoy_timeline.specs.Explanations.{message_name_at}
use Rattle.convoy_times.specs.declared.measure.Measure.{Measure}
use Rattle.convoy_commands.specs.declared.done.Done.{Done}
use Rattle.convoy_commands.specs.Measured.{measure_of_text}
use Rattle.convoy_commands.specs.Verdicts.{target_deadline}
use Rattle.convoy_survey.specs.Findings.{least_of, most_of}
use Rattle.convoy_sweep.specs.declared.fault.SweepFault.TheVariants.{Text}
use Rattle.convoy_sweep.specs.declared.kinds.Setting.{Setting}
use Rattle.convoy_sweep.specs.declared.kinds.Sweep.{Sweep}
use Rattle.convoy_sweep.specs.declared.kinds.SweepKey.{SweepKey}
use Rattle.convoy_sweep.specs.declared.kinds.Swept.{Swept}
use Rattle.convoy_sweep.specs.Answers.{SweepReply, end_of}
use Rattle.convoy_sweep.specs.Keys.{key_name}
use Rattle.convoy_sweep.specs.Points.{Prepared, prepared_of}
use Rattle.convoy_sweep.specs.Rows.{AreSwept}

-- the sweep of one key
abbrev pub of_one : Setting → Sweep
of_one setting = record { first = setting; second = None }

-- what is drawn of a row
abbrev pub dot_of : Swept → Dot
dot_of row = record {
  value = row.point.first.value;
  last = row.point.first.last;
  least = least_of row.finding;
  most = most_of row.finding;
}

-- what a curve is of: the target, and the words for the key
abbrev pub curve_title : Scenario → List ℕ → List ℕ
curve_title scenario key =
    message_name_at scenario scenario.target_message
    ++ (codes " at " ++ (group_name_at scenario scenario.target_group ++ (codes ": greatest latency by " ++ key)))

-- The text is that of a curve with a dot for each row over the values of the key, with the deadline where there is one, and times by the measure.
pub record IsCurveOf (measure : Option Measure) (deadline : Option ℕ) (over : SweepKey) (scenario : Scenario) (rows : List Swept) (out : List ℕ) : Type 0 where
  pub curve : Curve
  pub title : curve.title.now ≡ curve_title scenario (key_name over)
  pub key : curve.key.now ≡ key_name over
  pub dots : curve.dots.now ≡ map dot_of rows
  pub due : curve.deadline ≡ deadline
  pub measured : curve.measure ≡ measure
  pub drawn : IsCurve curve out

-- THE HEADLINE. What is written is the curve of the rows of the table of the sweep of that key, and the end is that of the table.
pub record IsCurveTold (setting : Setting) (envelope : Bool) (asked : Asked) (settings : Settings) (text : List ℕ) (end : Done) (out : List ℕ) : Type 0 where
  pub prepared : Prepared
  pub rows : List Swept
  pub read : prepared_of (of_one setting) envelope asked text ≡ Ok prepared
  pub swept : AreSwept settings prepared.made rows
  pub drawn : IsCurveOf (measure_of_text settings.unit text prepared.scenario) (target_deadline asked text prepared.scenario) setting.key prepared.scenario rows out
  pub ends : end ≡ end_of (target_deadline asked text prepared.scenario) rows

-- what may be answered for a text: the fault is the first that there is before any search
abbrev pub CurveSays : Setting → Bool → Asked → Settings → List ℕ → SweepReply → Type 0
CurveSays setting envelope asked settings text (Ok (end, out)) = IsCurveTold setting envelope asked settings text end out
CurveSays setting envelope asked settings text (Err fault) = prepared_of (of_one setting) envelope asked text ≡ Err fault

-- the same, unless memory ran out
abbrev pub CurveSaysUnlessMemory : Setting → Bool → Asked → Settings → List ℕ → SweepReply → Type 0
CurveSaysUnlessMemory setting envelope asked settings text reply =
    CurveSays setting envelope asked settings text reply ⊎ (reply ≡ Err (Text Memory))
