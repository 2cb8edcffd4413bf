-- The numbers of a row, and those that `latency` answers. This file is open to the crates above.
use Rattle.std.proofs.Common.{◌≡◌, ◌≤◌, ◌++◌, ℕ, List, Result, Ok, Err, IfOk, ap, subst, sym, ◌∙◌, arith}
use Rattle.std.specs.declared.alloc.AllocError.{AllocError}
use Rattle.convoy_scenario.specs.Scenario.{Scenario}
use Rattle.convoy_draft.specs.declared.fault.ScenarioFault.{ScenarioFault}
use Rattle.convoy_sim.specs.Greatest.{IsGreatest}
use Rattle.convoy_toml.specs.declared.asked.Asked.{Asked}
use Rattle.convoy_toml.specs.Reading.{scenario_of_text_by}
use Rattle.convoy_branch.specs.Options.{Settings}
use Rattle.convoy_commands.specs.declared.done.Done.{Done}
use Rattle.convoy_commands.specs.Measured.{measure_of_text}
use Rattle.convoy_commands.specs.Outsides.{outside_of_text, outside_text}
use Rattle.convoy_commands.specs.ReplyLines.{greatest_line}
use Rattle.convoy_commands.specs.Searches.{IsGreatestTold}
use Rattle.convoy_commands.specs.Verdicts.{target_deadline, verdict_text}
use Rattle.convoy_survey.specs.declared.finding.Finding.{Finding}
use Rattle.convoy_survey.specs.declared.finding.Finding.TheVariants.{Greatest, Open, OutOfMemory}
use Rattle.convoy_survey.specs.Findings.{Encloses, IsFinding, least_of, most_of, scenario_at, told_finding}
use Rattle.convoy_survey.specs.SurveyLaws.{RowsAreLatencies, RowsEnclose}

-- what is reached is no more than what is an upper bound
no_more : (scenario : Scenario) (a b : ℕ) → IsGreatest scenario a → IsGreatest scenario b → a ≤ b
no_more scenario a b one other = rw one.reached.2 at (other.upper one.reached.0 one.reached.1)

-- there is one greatest latency
same_greatest : (scenario : Scenario) (a b : ℕ) → IsGreatest scenario a → IsGreatest scenario b → a ≡ b
same_greatest scenario a b one other =
    let below : a ≤ b = no_more scenario a b one other in
    let above : b ≤ a = no_more scenario b a other one in
    omega arith

pub same_scenario : (a b : Scenario) → ◌≡◌ {A = Result Scenario ScenarioFault} (Ok a) (Ok b) → a ≡ b
same_scenario a b is = cc

-- the lines of a greatest latency of the scenario of a text
abbrev pub latency_lines : Asked → Settings → List ℕ → Scenario → ℕ → List ℕ
latency_lines asked settings text scenario latency =
    greatest_line (measure_of_text settings.unit text scenario) latency
    ++ (verdict_text (measure_of_text settings.unit text scenario) (target_deadline asked text scenario) latency latency
    ++ outside_text (outside_of_text text scenario))

-- the greatest latency that `latency` tells of a text is that of the text's scenario
pub latency_told : (asked : Asked) (settings : Settings) (scenario : Scenario) (latency : ℕ) (text out : List ℕ) (end : Done) → IsGreatest scenario latency →
    scenario_of_text_by asked text ≡ Ok scenario → IsGreatestTold asked settings text end out → out ≡ latency_lines asked settings text scenario latency
latency_told asked settings scenario latency text out end greatest read told =
    let same : told.scenario ≡ scenario = same_scenario told.scenario scenario (sym told.read ∙ read) in
    let number : told.latency ≡ latency = same_greatest scenario told.latency latency (rw same at told.greatest) greatest in
    told.written ∙ ap (λ (s : Scenario). latency_lines asked settings text s told.latency) same ∙ ap (latency_lines asked settings text scenario) number

pub rows_are_latencies : RowsAreLatencies
rows_are_latencies settings other span asked scenario m g latency nodes cause text out end found read told =
    latency_told asked other (scenario_at span scenario m g) latency text out end found.greatest read told

-- what a search finds encloses the greatest latency
pub finding_encloses : (settings : Settings) (scenario : Scenario) (finding : Finding) → IsFinding settings scenario finding →
    Encloses scenario (least_of finding) (most_of finding)
finding_encloses settings scenario (Greatest latency cause nodes) found = record {
  reached = found.greatest.reached;
  upper = found.greatest.upper;
  between = λ other greatest. (no_more scenario latency other found.greatest greatest, no_more scenario other latency greatest found.greatest);
}
finding_encloses settings scenario (Open least most cause) found = record {
  reached = (found.schedule, found.assigned, found.reached);
  upper = found.upper;
  between = λ other greatest. (
    rw found.reached at (greatest.upper found.schedule found.assigned),
    rw greatest.reached.2 at (found.upper greatest.reached.0 greatest.reached.1),
  );
}
finding_encloses settings scenario OutOfMemory found = absurd found

-- and so does what is told of it
pub told_encloses : (settings : Settings) (scenario : Scenario) (answer : Result Finding AllocError) → IfOk answer (IsFinding settings scenario) →
    Encloses scenario (least_of (told_finding answer)) (most_of (told_finding answer))
told_encloses settings scenario (Ok finding) found = finding_encloses settings scenario finding found
told_encloses settings scenario (Err error) found = record { reached = tt; upper = tt; between = λ latency greatest. (tt, tt) }

pub rows_enclose : RowsEnclose
rows_enclose settings span scenario row is =
    let asked : Scenario = scenario_at span scenario row.message row.group in
    subst (λ (finding : Finding). Encloses asked (least_of finding) (most_of finding)) (sym is.told) (told_encloses settings asked is.answer is.given)
