-- What is answered of the latency of a target where outages are asked for, too.
use Rattle.std.specs.Prelude.{◌≡◌, ◌⊎◌, ℕ, ◌≤◌, Bool, true, false, if◌then◌else◌, List, [], ◌++◌, Option, Some, Ok, Err, codes}
use Rattle.convoy_scenario.specs.Scenario.{Scenario}
use Rattle.convoy_scenario.specs.WellFormed.{IsScenario}
use Rattle.convoy_times.specs.declared.measure.Measure.{Measure}
use Rattle.convoy_toml.specs.declared.asked.Asked.{Asked}
use Rattle.convoy_toml.specs.Reading.{scenario_of_text_by}
use Rattle.convoy_ceiling.specs.Ceiling.{ceiling_of}
use Rattle.convoy_outages.specs.declared.outage.Outage.{Outage}
use Rattle.convoy_outages.specs.OutageCeiling.{outage_ceiling_at}
use Rattle.convoy_outages.specs.Spans.{span_asked}
use Rattle.convoy_outage_runs.specs.OutageRuns.{IsUpperOfRuns}
use Rattle.convoy_branch.specs.Options.{Settings}
use Rattle.convoy_commands.specs.declared.done.Done.{Done}
use Rattle.convoy_commands.specs.declared.done.Done.TheVariants as ends
use Rattle.convoy_commands.specs.Ceilings.{IsOutageRefused, ceiling_line}
use Rattle.convoy_commands.specs.Measured.{measure_of_text}
use Rattle.convoy_commands.specs.Outsides.{outside_of_text, outside_text}
use Rattle.convoy_commands.specs.ReplyLines.{greatest_line, open_line, ticks_line}
use Rattle.convoy_commands.specs.Replies.{Rule}
use Rattle.convoy_commands.specs.Searches.{IsFaultyBy}
use Rattle.convoy_commands.specs.Verdicts.{judged, target_deadline, verdict_text}
use Rattle.convoy_survey.specs.declared.finding.Finding.{Finding}
use Rattle.convoy_survey.specs.declared.finding.Finding.TheVariants.{Greatest, Open, OutOfMemory}
use Rattle.convoy_survey.specs.Findings.{IsFinding, is_open, least_of}

-- the ceiling of the target through outages of so many ticks in all
abbrev pub outage_ceiling_of : ℕ → Scenario → ℕ
outage_ceiling_of span scenario = outage_ceiling_at scenario span scenario.target_message scenario.target_group

-- the outages that are asked for last so many ticks of the scenario in all
abbrev pub LastsFor : Outage → Scenario → ℕ → Type 0
LastsFor outage scenario span = span_asked (Some outage) scenario ≡ Ok (Some span)

-- what a search found, as `latency` writes it: the greatest latency, or the least and the most that it may be
abbrev pub finding_line : Option Measure → Finding → List ℕ
finding_line measure (Greatest latency cause nodes) = greatest_line measure latency
finding_line measure (Open least most cause) = open_line measure least most
finding_line measure OutOfMemory = []

-- the latency through outages
abbrev pub outage_latency_line : Option Measure → ℕ → List ℕ
outage_latency_line measure through = ticks_line (codes "outage-latency") measure through

-- the ceiling of the scenario, where that is asked for
abbrev pub ceiling_text_if : Bool → Option Measure → Scenario → List ℕ
ceiling_text_if false measure scenario = []
ceiling_text_if true measure scenario = ceiling_line measure (ceiling_of scenario)

-- what is written: what the search found, the latency through outages, how a latency that is at least the one and at most the other keeps the deadline where there is one, how sure the ranges are where that is told, and the ceiling where that is asked for
abbrev pub latency_through_text : Bool → Option Measure → Option ℕ → Option ℕ → Scenario → Finding → ℕ → ℕ → List ℕ
latency_through_text with_ceiling measure deadline outside scenario finding least through =
    finding_line measure finding
    ++ (outage_latency_line measure through
    ++ (verdict_text measure deadline least through ++ (outside_text outside ++ ceiling_text_if with_ceiling measure scenario)))

-- how the command ends without a deadline: open where the search did not end
abbrev pub finding_end : Finding → Done
finding_end finding = if is_open finding then ends.Open else ends.Fine

-- THE HEADLINE. What is written is what a search with these settings found of the scenario that was read, and a number that the target's latency exceeds in no run through outages that last so long in all as is asked, nor that is above the ceiling through them; how such latencies keep the deadline of the target, which some run exceeds where it is below the least that the search found; how sure the ranges are where that is told; and the ceiling where that is asked for. What a ceiling is worth the law `CeilingHolds` says.
pub record IsLatencyThrough (with_ceiling : Bool) (outage : Outage) (asked : Asked) (settings : Settings) (text : List ℕ) (end : Done) (out : List ℕ) : Type 0 where
  pub scenario : Scenario
  pub span : ℕ
  pub finding : Finding
  pub least : ℕ
  pub through : ℕ
  pub read : scenario_of_text_by asked text ≡ Ok scenario
  pub lawful : IsScenario scenario
  pub lasting : LastsFor outage scenario span
  pub found : IsFinding settings scenario finding
  pub least_found : least_of finding ≡ Some least
  pub safe : IsUpperOfRuns span scenario through
  pub low : through ≤ outage_ceiling_of span scenario
  pub written : out
      ≡ latency_through_text with_ceiling (measure_of_text settings.unit text scenario) (target_deadline asked text scenario)
      (outside_of_text text scenario) scenario finding least through
  pub ends : end ≡ judged (target_deadline asked text scenario) least through (finding_end finding)

-- what `latency` may answer where outages are asked for, by whether the ceiling is to stand below it
abbrev pub latency_through_says : Bool → Outage → Asked → Settings → Rule
latency_through_says with_ceiling outage asked settings text (Ok (end, out)) = IsLatencyThrough with_ceiling outage asked settings text end out
latency_through_says with_ceiling outage asked settings text (Err fault) = IsFaultyBy asked text fault ⊎ IsOutageRefused (Some outage) asked text fault
