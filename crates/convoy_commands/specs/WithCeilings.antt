-- An answer with the ceiling beside it: what more traffic could cost, besides what the messages at hand cost at worst.
use Rattle.std.specs.Prelude.{◌≡◌, ℕ, Bool, true, false, List, ◌++◌, Option, Ok, Err}
use Rattle.convoy_draft.specs.declared.duration.TimeUnit.{TimeUnit}
use Rattle.convoy_scenario.specs.Scenario.{Scenario}
use Rattle.convoy_toml.specs.declared.asked.Asked.{Asked}
use Rattle.convoy_toml.specs.Reading.{scenario_of_text_by}
use Rattle.convoy_ceiling.specs.Ceiling.{IsUpperInTraffic, ceiling_of}
use Rattle.convoy_certificate.specs.Certificate.{Certificate}
use Rattle.convoy_certificate.specs.Reading.{certificate_of}
use Rattle.convoy_branch.specs.Options.{Settings}
use Rattle.convoy_commands.specs.declared.asking.Asking.TheVariants.{Explain}
use Rattle.convoy_commands.specs.declared.done.Done.{Done}
use Rattle.convoy_commands.specs.declared.done.Done.TheVariants.{Fine}
use Rattle.convoy_commands.specs.Asks.{AskSays}
use Rattle.convoy_commands.specs.Ceilings.{ceiling_line}
use Rattle.convoy_commands.specs.Measured.{measure_of, measure_of_text}
use Rattle.convoy_commands.specs.Replies.{Rule}
use Rattle.convoy_times.specs.declared.measure.Measure.{Measure}
use Rattle.convoy_commands.specs.Searches.{LatencySays}

-- below an answer stands the ceiling of the scenario that it is about, above which no latency is in any traffic of the scenario's kinds
pub record HasCeilingBelow (measure : Option Measure) (scenario : Scenario) (answer out : List ℕ) : Type 0 where
  pub safe : IsUpperInTraffic scenario scenario.target_message scenario.target_group (ceiling_of scenario)
  pub written : out ≡ answer ++ ceiling_line measure (ceiling_of scenario)

-- what `latency` answers for the text of a scenario, and below it the scenario's ceiling
pub record IsLatencyWithCeiling (asked : Asked) (settings : Settings) (text out : List ℕ) (done : Done) : Type 0 where
  pub scenario : Scenario
  pub answer : List ℕ
  pub read : scenario_of_text_by asked text ≡ Ok scenario
  pub answered : LatencySays asked settings text (Ok (done, answer))
  pub ceiling : HasCeilingBelow (measure_of_text settings.unit text scenario) scenario answer out

-- what `explain` answers for the text of a certificate that is valid, and below it the ceiling of the certificate's scenario
pub record IsExplanationWithCeiling (unit : Option TimeUnit) (text out : List ℕ) : Type 0 where
  pub certificate : Certificate
  pub answer : List ℕ
  pub read : certificate_of text ≡ Ok certificate
  pub answered : AskSays (Explain unit) text (Ok (Fine, answer))
  pub ceiling : HasCeilingBelow (measure_of unit certificate.scenario) certificate.scenario answer out

-- what may be answered for the text of a scenario: below a fault stands no ceiling
abbrev pub LatencyWithCeilingSays : Asked → Settings → Rule
LatencyWithCeilingSays asked settings text (Ok (done, out)) = IsLatencyWithCeiling asked settings text out done
LatencyWithCeilingSays asked settings text (Err fault) = LatencySays asked settings text (Err fault)

-- what may be answered for the text of a certificate: below a refusal and a fault stands no ceiling
abbrev pub ExplainWithCeilingSays : Option TimeUnit → Rule
ExplainWithCeilingSays unit text (Ok (Fine, out)) = IsExplanationWithCeiling unit text out
ExplainWithCeilingSays unit text other = AskSays (Explain unit) text other

-- what `latency` may answer, by whether the ceiling is to stand below it
abbrev pub latency_says : Bool → Asked → Settings → Rule
latency_says true asked settings = LatencyWithCeilingSays asked settings
latency_says false asked settings = LatencySays asked settings

-- what `explain` may answer, by the same
abbrev pub explain_says : Bool → Option TimeUnit → Rule
explain_says true unit = ExplainWithCeilingSays unit
explain_says false unit = AskSays (Explain unit)
