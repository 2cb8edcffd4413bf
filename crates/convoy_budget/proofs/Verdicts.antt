-- What a verdict on a scenario says of it.
use Rattle.std.proofs.Common.{◌≡◌, ℕ, ◌≤◌, ◌<◌, nat_le, Bool, true, false, cond, refl, arith}
use Rattle.std.proofs.lemmas.Bool.Decides.{nat_tests}
use Rattle.convoy_scenario.specs.Scenario.{Scenario}
use Rattle.convoy_branch.specs.Options.{Settings}
use Rattle.convoy_commands.specs.declared.verdict.Verdict.TheVariants.{Within, Beyond, Undecided}
use Rattle.convoy_commands.specs.Verdicts.{verdict_of}
use Rattle.convoy_survey.specs.declared.finding.Finding.{Finding}
use Rattle.convoy_survey.specs.declared.finding.Finding.TheVariants.{Greatest, Open, OutOfMemory}
use Rattle.convoy_survey.specs.Findings.{IsFinding}
use Rattle.convoy_budget.specs.Judging.{IsBeyond, IsSearchVerdict, Keeps, verdict_on}

-- what is within a deadline is at most that
within_most : (deadline least most : ℕ) → Within ≡ verdict_of deadline least most → most ≤ deadline
within_most deadline least most is = by_tests (nat_le most deadline) (nat_le least deadline) refl is where
  by_tests : (b c : Bool) → nat_le most deadline ≡ b → Within ≡ cond b Within (cond c Undecided Beyond) → most ≤ deadline
  by_tests true c kept is = grind (arith, nat_tests, kept)
  by_tests false true kept is = cc
  by_tests false false kept is = cc

-- what is beyond it is more at least
beyond_least : (deadline least most : ℕ) → Beyond ≡ verdict_of deadline least most → deadline < least
beyond_least deadline least most is = by_tests (nat_le most deadline) (nat_le least deadline) refl is where
  by_tests : (b c : Bool) → nat_le least deadline ≡ c → Beyond ≡ cond b Within (cond c Undecided Beyond) → deadline < least
  by_tests true c above is = cc
  by_tests false true above is = cc
  by_tests false false above is = grind (arith, nat_tests, above)

-- no schedule of a scenario that is within the deadline is beyond it
pub keeps_by : (settings : Settings) (deadline : ℕ) (scenario : Scenario) → IsSearchVerdict settings deadline scenario Within → Keeps deadline scenario
keeps_by settings deadline scenario is = by_finding is.finding is.found is.told where
  by_finding : (finding : Finding) → IsFinding settings scenario finding → Within ≡ verdict_on deadline finding → Keeps deadline scenario
  by_finding (Greatest latency cause nodes) found told =
      λ schedule assigned.
      let most = within_most deadline latency latency told in
      let upper = found.greatest.upper schedule assigned in
      omega (arith, most, upper)
  by_finding (Open least most cause) found told =
      λ schedule assigned.
      let most = within_most deadline least most told in
      let upper = found.upper schedule assigned in
      omega (arith, most, upper)
  by_finding OutOfMemory found told = absurd found

-- some schedule of one that is beyond it is so
pub beyond_by : (settings : Settings) (deadline : ℕ) (scenario : Scenario) → IsSearchVerdict settings deadline scenario Beyond → IsBeyond deadline scenario
beyond_by settings deadline scenario is = by_finding is.finding is.found is.told where
  by_finding : (finding : Finding) → IsFinding settings scenario finding → Beyond ≡ verdict_on deadline finding → IsBeyond deadline scenario
  by_finding (Greatest latency cause nodes) found told = (latency, beyond_least deadline latency latency told, found.greatest.reached)
  by_finding (Open least most cause) found told = (least, beyond_least deadline least most told, (found.schedule, found.assigned, found.reached))
  by_finding OutOfMemory found told = absurd found
