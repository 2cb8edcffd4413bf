-- What is proved of batches. Each is the one clause of the function of its name in the crate's module `batch_laws`.
use Rattle.std.specs.Prelude.{◌≡◌, ℕ, List, ◌++◌, Some, Result}
use Rattle.convoy_streams.specs.Devices.{Answer}
use Rattle.convoy_toml.specs.declared.asked.Asked.{Asked}
use Rattle.convoy_branch.specs.Options.{Settings}
use Rattle.convoy_commands.specs.declared.done.Done.{Done}
use Rattle.convoy_commands.specs.declared.fault.Fault.{Fault}
use Rattle.convoy_commands.specs.declared.verdict.Verdict.{Verdict}
use Rattle.convoy_commands.specs.CommandLaws.{TellsFailures, VerdictSays}
use Rattle.convoy_commands.specs.Measured.{measure_of_text}
use Rattle.convoy_commands.specs.Outsides.{outside_text}
use Rattle.convoy_commands.specs.ReplyLines.{greatest_line}
use Rattle.convoy_commands.specs.Replies.{Rule}
use Rattle.convoy_commands.specs.Searches.{IsGreatestTold}
use Rattle.convoy_commands.specs.Verdicts.{verdict_text}
use Rattle.convoy_survey.specs.declared.finding.Cause.{Cause}
use Rattle.convoy_survey.specs.declared.finding.Finding.TheVariants.{Greatest}
use Rattle.convoy_survey.specs.Findings.{Encloses, least_of, most_of}
use Rattle.convoy_survey.specs.Judgements.{finding_verdict}
use Rattle.convoy_batches.specs.declared.job_row.JobFinding.{JobFinding}
use Rattle.convoy_batches.specs.Batches.{BatchRunsTo}
use Rattle.convoy_batches.specs.JobRows.{IsSearched}

-- each failure of a device is told by the result of a batch whose texts have this rule, and no failure is told that was none
abbrev pub BatchFailuresAreTold : Rule → Type 0
BatchFailuresAreTold says =
    (most_reads : ℕ) (reads writes : List Answer) (result : Result Done Fault) →
    BatchRunsTo says most_reads reads writes result → TellsFailures reads writes result

-- The greatest latency that `latency` finds for a job's text is the number in the job's row, and it tells the verdict on that by the deadline there, and how sure the ranges are by the share there, whatever the settings of either.
abbrev pub JobRowsAreLatencies : Type 0
JobRowsAreLatencies =
    (asked : Asked) (settings other : Settings) (text out : List ℕ) (end : Done) (found : JobFinding) (latency nodes : ℕ) (cause : Cause) →
    IsSearched asked settings text found → found.finding ≡ Greatest latency cause nodes → IsGreatestTold asked other text end out →
    out
    ≡ greatest_line (measure_of_text other.unit text found.instance) latency
    ++ (verdict_text (measure_of_text other.unit text found.instance) found.deadline latency latency
    ++ outside_text found.outside)

-- The two numbers of a job's row, `least` and `most`, enclose the greatest latency of the job's scenario, whether or not the search ended.
abbrev pub JobRowsEnclose : Type 0
JobRowsEnclose =
    (asked : Asked) (settings : Settings) (text : List ℕ) (found : JobFinding) → IsSearched asked settings text found →
    Encloses found.instance (least_of found.finding) (most_of found.finding)

-- What the verdict on a job's row says holds of the job's scenario, whether or not the search ended: within, no schedule has a latency above the deadline of the target, and beyond, some schedule has one.
abbrev pub JobVerdictsHold : Type 0
JobVerdictsHold =
    (asked : Asked) (settings : Settings) (text : List ℕ) (found : JobFinding) (deadline : ℕ) (verdict : Verdict) →
    IsSearched asked settings text found → found.deadline ≡ Some deadline → finding_verdict found.deadline found.finding ≡ Some verdict →
    VerdictSays found.instance deadline verdict
