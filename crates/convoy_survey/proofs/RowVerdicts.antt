-- What the verdicts on rows say.
use Rattle.std.proofs.Common.{◌≡◌, ℕ, Option, Some, None, subst}
use Rattle.convoy_scenario.specs.Scenario.{Scenario}
use Rattle.convoy_commands.specs.declared.verdict.Verdict.{Verdict}
use Rattle.convoy_commands.specs.CommandLaws.{VerdictSays, VerdictsHold}
use Rattle.convoy_commands.specs.Verdicts.{verdict_of}
use Rattle.convoy_survey.specs.declared.finding.Finding.{Finding}
use Rattle.convoy_survey.specs.declared.finding.Finding.TheVariants.{Greatest, Open, OutOfMemory}
use Rattle.convoy_survey.specs.Findings.{Encloses, least_of, most_of, scenario_at}
use Rattle.convoy_survey.specs.Judgements.{finding_verdict}
use Rattle.convoy_survey.specs.SurveyLaws.{RowVerdictsHold}
use Rattle.convoy_survey.proofs.Numbers.{rows_enclose}

same_verdict : (a b : Verdict) → ◌≡◌ {A = Option Verdict} (Some a) (Some b) → a ≡ b
same_verdict a b is = cc

no_verdict : (a : Verdict) → ◌≡◌ {A = Option Verdict} None (Some a) → ⊥
no_verdict a is = absurd cc

-- what encloses the greatest latency bears out the verdict
finding_says : VerdictsHold → (scenario : Scenario) (deadline : ℕ) (finding : Finding) (verdict : Verdict) →
    Encloses scenario (least_of finding) (most_of finding) → finding_verdict (Some deadline) finding ≡ Some verdict → VerdictSays scenario deadline verdict
finding_says hold scenario deadline (Greatest latency cause nodes) verdict encloses is =
    subst (VerdictSays scenario deadline) (same_verdict (verdict_of deadline latency latency) verdict is)
    (hold scenario deadline latency latency encloses.reached encloses.upper)
finding_says hold scenario deadline (Open least most cause) verdict encloses is =
    subst (VerdictSays scenario deadline) (same_verdict (verdict_of deadline least most) verdict is)
    (hold scenario deadline least most encloses.reached encloses.upper)
finding_says hold scenario deadline OutOfMemory verdict encloses is = absurd (no_verdict verdict is)

pub row_verdicts_hold : VerdictsHold → RowVerdictsHold
row_verdicts_hold hold settings span scenario row deadline verdict is says =
    finding_says hold (scenario_at span scenario row.message row.group) deadline row.finding verdict (rows_enclose settings span scenario row is) says
