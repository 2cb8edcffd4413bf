-- What is proved of the rows of a survey, and of those of ceilings. Each is the one clause of the function of its name in the crate's module `survey_laws`.
use Rattle.std.specs.Prelude.{◌≡◌, ℕ, ◌<◌, ◌≤◌, List, length, map, ◌++◌, Option, Some, None, IfSome, Ok}
use Rattle.std.specs.List.{All, Contains, flat_map}
use Rattle.convoy_scenario.specs.Scenario.{Scenario, message_at, message_numbers}
use Rattle.convoy_scenario.specs.Targets.{targets_of, with_target}
use Rattle.convoy_scenario.specs.WellFormed.{IsScenario}
use Rattle.convoy_sim.specs.Greatest.{IsReached, IsUpper}
use Rattle.convoy_ceiling.specs.Ceiling.{IsUpperInTraffic}
use Rattle.convoy_outages.specs.OutageCeiling.{IsUpperThrough}
use Rattle.convoy_toml.specs.declared.asked.Asked.{Asked}
use Rattle.convoy_toml.specs.Reading.{scenario_of_text_by}
use Rattle.convoy_branch.specs.Options.{Settings}
use Rattle.convoy_commands.specs.declared.done.Done.{Done}
use Rattle.convoy_commands.specs.declared.verdict.Verdict.{Verdict}
use Rattle.convoy_commands.specs.CommandLaws.{VerdictSays}
use Rattle.convoy_commands.specs.Measured.{measure_of_text}
use Rattle.convoy_commands.specs.Outsides.{outside_of_text, outside_text}
use Rattle.convoy_commands.specs.ReplyLines.{greatest_line}
use Rattle.convoy_commands.specs.Searches.{IsGreatestTold}
use Rattle.convoy_commands.specs.Verdicts.{target_deadline, verdict_text}
use Rattle.convoy_survey.specs.declared.ceiled.Ceiled.{Ceiled}
use Rattle.convoy_survey.specs.declared.finding.Cause.{Cause}
use Rattle.convoy_survey.specs.declared.finding.Finding.TheVariants.{Greatest}
use Rattle.convoy_survey.specs.declared.finding.Surveyed.{Surveyed}
use Rattle.convoy_survey.specs.AtAll.{least_at_all, most_at_all, rows_of}
use Rattle.convoy_survey.specs.Ceilings.{AreCeiled, IsAttainedInTraffic, IsCeiled}
use Rattle.convoy_survey.specs.CeilingTables.{ceiled_of, greatest_attained, greatest_ceiling, greatest_through}
use Rattle.convoy_survey.specs.Findings.{Encloses, IsFinding, IsSurveyed, least_of, most_of, scenario_at}
use Rattle.convoy_survey.specs.Judgements.{finding_verdict}
use Rattle.convoy_survey.specs.Surveys.{AreSurveyed, with_rows}

-- Of a text of the same scenario with a row's message and group as its target, or of the scenario around these, `latency` answers the row's number where it tells a greatest latency, by whatever settings and whoever asked, below it how that keeps the deadline of the target, if it has one, and how sure the ranges are, if its links tell that.
abbrev pub RowsAreLatencies : Type 0
RowsAreLatencies =
    (settings other : Settings) (span : Option ℕ) (asked : Asked) (scenario : Scenario) (m g latency nodes : ℕ) (cause : Cause) (text out : List ℕ) (end : Done) →
    IsFinding settings (scenario_at span scenario m g) (Greatest latency cause nodes) →
    scenario_of_text_by asked text ≡ Ok (scenario_at span scenario m g) → IsGreatestTold asked other text end out →
    out
    ≡ greatest_line (measure_of_text other.unit text (scenario_at span scenario m g)) latency
    ++ (verdict_text (measure_of_text other.unit text (scenario_at span scenario m g)) (target_deadline asked text (scenario_at span scenario m g)) latency latency
    ++ outside_text (outside_of_text text (scenario_at span scenario m g)))

-- Around each target, the targets that have rows are each message at each group that it goes to.
abbrev pub AroundHasEachTarget : Type 0
AroundHasEachTarget =
    (span : ℕ) (scenario : Scenario) → IsScenario scenario →
    targets_of (with_rows (Some span) scenario) ≡ flat_map (λ m. map (λ g. (m, g)) (message_at scenario m).destinations) (message_numbers scenario)

-- The two numbers of a row, `least` and `most`, enclose the greatest latency of its target, whether or not the search ended.
abbrev pub RowsEnclose : Type 0
RowsEnclose =
    (settings : Settings) (span : Option ℕ) (scenario : Scenario) (row : Surveyed) → IsSurveyed settings span scenario row →
    Encloses (scenario_at span scenario row.message row.group) (least_of row.finding) (most_of row.finding)

-- What the verdict on a row says holds of its target, whether or not the search ended: within, no schedule has a latency above the deadline, and beyond, some schedule has one.
abbrev pub RowVerdictsHold : Type 0
RowVerdictsHold =
    (settings : Settings) (span : Option ℕ) (scenario : Scenario) (row : Surveyed) (deadline : ℕ) (verdict : Verdict) → IsSurveyed settings span scenario row →
    finding_verdict (Some deadline) row.finding ≡ Some verdict → VerdictSays (scenario_at span scenario row.message row.group) deadline verdict

-- It holds of a message at one of the groups that it goes to.
pub record IsAtOne (scenario : Scenario) (m : ℕ) (holds_at : ℕ → Type 0) : Type 0 where
  pub group : ℕ
  pub among : Contains (message_at scenario m).destinations group
  pub holds : holds_at group

-- it holds of a message at each of the groups that it goes to
abbrev pub IsAtEach : Scenario → ℕ → (ℕ → Type 0) → Type 0
IsAtEach scenario m holds_at = All holds_at (message_at scenario m).destinations

-- Of a message at all the groups that it goes to: some schedule has the least at one of them, and none has a latency above the most at any. Of one that is not known nothing is said.
pub record EnclosesAtAll (span : Option ℕ) (scenario : Scenario) (m : ℕ) (least most : Option ℕ) : Type 0 where
  pub reached : IfSome least (λ n. IsAtOne scenario m (λ g. IsReached (scenario_at span scenario m g) n))
  pub upper : IfSome most (λ n. IsAtEach scenario m (λ g. IsUpper (scenario_at span scenario m g) n))

-- The two numbers of the row of a message at all groups, of which a survey has rows, enclose the greatest latency at its groups: when a client that waits for all of them has its answer.
abbrev pub RowsAtAllEnclose : Type 0
RowsAtAllEnclose =
    (settings : Settings) (span : Option ℕ) (scenario : Scenario) (m : ℕ) (rows : List Surveyed) →
    AreSurveyed settings span scenario rows → 0 < length (rows_of m rows) →
    EnclosesAtAll span scenario m (least_at_all (rows_of m rows)) (most_at_all (rows_of m rows))

-- Of a message at a group: in no traffic of the scenario's kinds is a latency of its kind there above the most; traffic in which it is asked for attains the least, which is no greater. Of a least that is not known nothing is said.
pub record EnclosesInTraffic (scenario : Scenario) (m g : ℕ) (least : Option ℕ) (most : ℕ) : Type 0 where
  pub reached : IfSome least (IsAttainedInTraffic (with_target scenario m g))
  pub upper : IsUpperInTraffic scenario m g most
  pub within : IfSome least (λ n. n ≤ most)

-- The two numbers of a row of ceilings, `attained` and `ceiling`, enclose what traffic may cost its target, whether or not they are equal.
abbrev pub CeilingRowsEnclose : Type 0
CeilingRowsEnclose =
    (span : Option ℕ) (scenario : Scenario) (row : Ceiled) → IsCeiled span scenario row → EnclosesInTraffic scenario row.message row.group row.attained row.ceiling

-- Of a message at all the groups that it goes to: in no traffic of the scenario's kinds is a latency of its kind above the most at any of them; traffic in which it is asked for at one of them attains the least, which is no greater. Of a least that is not known nothing is said.
pub record EnclosesInTrafficAtAll (scenario : Scenario) (m : ℕ) (least : Option ℕ) (most : ℕ) : Type 0 where
  pub reached : IfSome least (λ n. IsAtOne scenario m (λ g. IsAttainedInTraffic (with_target scenario m g) n))
  pub upper : IsAtEach scenario m (λ g. IsUpperInTraffic scenario m g most)
  pub within : IfSome least (λ n. n ≤ most)

-- The two numbers of the row of a message at all groups, of which a table of ceilings has rows, enclose what traffic may cost it at its groups.
abbrev pub CeilingRowsAtAllEnclose : Type 0
CeilingRowsAtAllEnclose =
    (span : Option ℕ) (scenario : Scenario) (m : ℕ) (rows : List Ceiled) →
    AreCeiled span scenario None rows → 0 < length (ceiled_of m rows) →
    EnclosesInTrafficAtAll scenario m (greatest_attained (ceiled_of m rows)) (greatest_ceiling (ceiled_of m rows))

-- What the row of a message at all groups tells of outages of this span: in traffic that keeps the links but for such no latency of its kind is above it at any of its groups.
abbrev pub CeilingRowsAtAllHoldThrough : Type 0
CeilingRowsAtAllHoldThrough =
    (span : ℕ) (scenario : Scenario) (m : ℕ) (rows : List Ceiled) → AreCeiled (Some span) scenario None rows → 0 < length (ceiled_of m rows) →
    IfSome (greatest_through (ceiled_of m rows)) (λ n. IsAtEach scenario m (λ g. IsUpperThrough span scenario m g n))
