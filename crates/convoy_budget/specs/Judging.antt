-- What may be told of a range that gets wider: whether a deadline is kept, found by a search or by the ceiling.
use Rattle.std.specs.Prelude.{◌≡◌, ◌⊎◌, ℕ, ◌<◌, Bool, true, false, Ok, Err, Result}
use Rattle.convoy_draft.specs.declared.fault.ScenarioFault.{ScenarioFault}
use Rattle.convoy_draft.specs.declared.fault.ScenarioFault.TheVariants.{Memory}
use Rattle.convoy_scenario.specs.Scenario.{Scenario}
use Rattle.convoy_sim.specs.Greatest.{IsReached, IsUpper}
use Rattle.convoy_ceiling.specs.Ceiling.{ceiling_of}
use Rattle.convoy_branch.specs.Options.{Settings}
use Rattle.convoy_commands.specs.declared.fault.Fault.{Fault}
use Rattle.convoy_commands.specs.declared.fault.Fault.TheVariants as faults
use Rattle.convoy_commands.specs.declared.verdict.Verdict.{Verdict}
use Rattle.convoy_commands.specs.declared.verdict.Verdict.TheVariants.{Undecided}
use Rattle.convoy_commands.specs.Verdicts.{verdict_of}
use Rattle.convoy_survey.specs.declared.finding.Finding.{Finding}
use Rattle.convoy_survey.specs.declared.finding.Finding.TheVariants.{Greatest, Open, OutOfMemory}
use Rattle.convoy_survey.specs.Findings.{IsFinding}
use Rattle.convoy_budget.specs.declared.kinds.Room.{Room}
use Rattle.convoy_budget.specs.declared.kinds.Room.TheVariants as rooms
use Rattle.convoy_budget.specs.declared.kinds.Test.{Test}
use Rattle.convoy_budget.specs.declared.kinds.Widening.{Widening}
use Rattle.convoy_budget.specs.Ranges.{widened, widest}
use Rattle.convoy_budget.specs.Rooms.{IsRoomBy}

-- the verdict on what was found, by a deadline
abbrev pub verdict_on : ℕ → Finding → Verdict
verdict_on deadline (Greatest latency cause nodes) = verdict_of deadline latency latency
verdict_on deadline (Open least most cause) = verdict_of deadline least most
verdict_on deadline OutOfMemory = Undecided

-- A search with these settings found something in the scenario on which that is the verdict.
pub record IsSearchVerdict (settings : Settings) (deadline : ℕ) (scenario : Scenario) (verdict : Verdict) : Type 0 where
  pub finding : Finding
  pub found : IsFinding settings scenario finding
  pub told : verdict ≡ verdict_on deadline finding

-- that is the verdict on the greatest latency of the scenario, as a search with these settings finds it, or on its ceiling
abbrev pub IsVerdictBy : Bool → Settings → ℕ → Scenario → Verdict → Type 0
IsVerdictBy false settings deadline scenario verdict = IsSearchVerdict settings deadline scenario verdict
IsVerdictBy true settings deadline scenario verdict = verdict ≡ verdict_of deadline (ceiling_of scenario) (ceiling_of scenario)

-- A range of that breadth makes a scenario on which that is the verdict.
pub record IsJudged (settings : Settings) (test : Test) (scenario : Scenario) (widening : Widening) (breadth : ℕ) (verdict : Verdict) : Type 0 where
  pub instance : Scenario
  pub made : widened scenario widening breadth ≡ Ok instance
  pub judged : IsVerdictBy test.of_ceiling settings test.deadline instance verdict

-- what may be answered of a range of that breadth: a verdict; or why it makes no scenario; or, as with each command, that memory ran out
abbrev pub MayJudge : Settings → Test → Scenario → Widening → ℕ → Result Verdict ScenarioFault → Type 0
MayJudge settings test scenario widening breadth (Ok verdict) = IsJudged settings test scenario widening breadth verdict
MayJudge settings test scenario widening breadth (Err fault) = (widened scenario widening breadth ≡ Err fault) ⊎ (fault ≡ Memory)

-- that is the room that a range has, by searches with these settings or by ceilings
abbrev pub IsRoom : Settings → Test → Scenario → Widening → Room → Type 0
IsRoom settings test scenario widening room = IsRoomBy (MayJudge settings test scenario widening) (widest scenario widening) room

-- it is told, unless memory ran out for it
abbrev pub IsRoomTold : Settings → Test → Scenario → Widening → Room → Type 0
IsRoomTold settings test scenario widening room = IsRoom settings test scenario widening room ⊎ (room ≡ rooms.OutOfMemory)

-- A range of some breadth makes no scenario, for the cause that the fault tells.
pub record MakesNone (scenario : Scenario) (widening : Widening) (fault : Fault) : Type 0 where
  pub breadth : ℕ
  pub cause : ScenarioFault
  pub broken : widened scenario widening breadth ≡ Err cause
  pub told : fault ≡ faults.Scenario cause

-- no schedule is beyond the deadline
abbrev pub Keeps : ℕ → Scenario → Type 0
Keeps deadline scenario = IsUpper scenario deadline

-- some schedule is
abbrev pub IsBeyond : ℕ → Scenario → Type 0
IsBeyond deadline scenario = (latency : ℕ) × (deadline < latency) × IsReached scenario latency
