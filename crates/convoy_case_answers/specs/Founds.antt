-- What is found of a case.
use Rattle.std.specs.Prelude.{Vec, ◌≡◌, ◌⊎◌, ℕ, ◌+◌, ◌<◌, ◌≤◌, Bool, true, false, List, length, map, Option, Some, None, unwrap_or, Result, Ok, Err}
use Rattle.std.specs.declared.alloc.Global.{Global}
use Rattle.std.specs.List.{All, range_with_len, slice_get}
use Rattle.convoy_draft.specs.declared.fault.ScenarioFault.{ScenarioFault}
use Rattle.convoy_lines.specs.Results.{◌>>=◌}
use Rattle.convoy_scenario.specs.Scenario.{Scenario}
use Rattle.convoy_scenario.specs.WellFormed.{IsScenario}
use Rattle.convoy_sim.specs.Greatest.{IsReached, IsUpper}
use Rattle.convoy_toml.specs.declared.asked.Asked.{Asked}
use Rattle.convoy_toml.specs.declared.written.WrittenTime.{WrittenTime}
use Rattle.convoy_toml.specs.Reading.{acceptances_of_text, scenario_of_text_by}
use Rattle.convoy_toml.specs.Replies.{reply_of_text}
use Rattle.convoy_outages.specs.declared.outage.Outage.{Outage}
use Rattle.convoy_outages.specs.declared.outage.OutageFault.TheVariants.{TooLong}
use Rattle.convoy_replicas.specs.declared.replicas.ReplicaFault.{ReplicaFault}
use Rattle.convoy_replicas.specs.Replicas.{replica_ticks, replicas_of}
use Rattle.convoy_outage_runs.specs.OutageRuns.{IsUpperOfRuns}
use Rattle.convoy_outage_answers.specs.Latencies.{LastsFor, outage_ceiling_of}
use Rattle.convoy_finish_answers.specs.AcceptedLatencies.{IsFinishBetween}
use Rattle.convoy_finish_answers.specs.AcceptedTexts.{AreReplicasRefused}
use Rattle.convoy_branch.specs.Options.{Settings}
use Rattle.convoy_branch.specs.Outcomes.{best_of}
use Rattle.convoy_branch.specs.declared.outcome.Outcome.{Outcome}
use Rattle.convoy_branch.specs.declared.outcome.Outcome.TheVariants.{Proved, Open}
use Rattle.convoy_commands.specs.declared.fault.Fault.{Fault}
use Rattle.convoy_commands.specs.declared.fault.Fault.TheVariants as faults
use Rattle.convoy_commands.specs.Ceilings.{IsOutageRefused}
use Rattle.convoy_commands.specs.Faults.{told_of}
use Rattle.convoy_commands.specs.Measured.{measure_of_text}
use Rattle.convoy_commands.specs.Outsides.{outside_of_text}
use Rattle.convoy_commands.specs.Searches.{IsEnd, IsFaultyBy}
use Rattle.convoy_commands.specs.Verdicts.{target_deadline}
use Rattle.convoy_case_answers.specs.declared.found.Found.{Found}
use Rattle.convoy_case_answers.specs.declared.late.Late.{Late}
use Rattle.convoy_case_answers.specs.declared.late.Late.TheVariants as lates

-- what no latency is above that a search has found which ended so
abbrev pub upper_of : Outcome → ℕ
upper_of (Proved certificate tickets by_worker) = certificate.latency
upper_of (Open best upper tickets by_worker) = upper

-- the search has ended, and so found the greatest latency
abbrev pub is_proved : Outcome → Bool
is_proved (Proved certificate tickets by_worker) = true
is_proved (Open best upper tickets by_worker) = false

-- Some run of the scenario in which replicas so far from their leaders answer delivers its target after `least` ticks, and none after more than `most`; and it is no sooner than what the search found without replicas.
pub record IsAnsweredBetween (span : Option WrittenTime) (text : List ℕ) (scenario : Scenario) (found least most : ℕ) : Type 0 where
  pub replicas : List ℕ
  pub spanning : replicas_of span (acceptances_of_text text) scenario ≡ Ok replicas
  pub between : IsFinishBetween scenario replicas least most
  pub no_sooner : found ≤ least

-- No run through outages that last so long in all delivers its target after more than `most` ticks, and that is none above the ceiling through them.
pub record IsLateThrough (outage : Outage) (scenario : Scenario) (most : ℕ) : Type 0 where
  pub span : ℕ
  pub lasting : LastsFor outage scenario span
  pub safe : IsUpperOfRuns span scenario most
  pub low : most ≤ outage_ceiling_of span scenario

-- the latency with what keeps the target back is between these numbers, where that without it is at least so great: of outages there is a number that none exceeds
abbrev pub IsLate : Late → List ℕ → Scenario → ℕ → ℕ → ℕ → ℕ → Type 0
IsLate lates.Nothing text scenario least most late_least late_most = (late_least ≡ least) × (late_most ≡ most)
IsLate (lates.Outages outage) text scenario least most late_least late_most = (late_least ≡ least) × IsLateThrough outage scenario late_most
IsLate (lates.Answers span) text scenario least most late_least late_most = IsAnsweredBetween span text scenario least late_least late_most

-- how many ticks of the scenario a word takes that takes so long, where it takes some time
abbrev pub way_of : Scenario → Option WrittenTime → Result (Option ℕ) ReplicaFault
way_of scenario None = Ok None
way_of scenario (Some time) = replica_ticks scenario time >>= λ ticks. Ok (Some ticks)

-- The word of the target's group takes so many ticks to the client that the text names, where it names one.
pub record HasWay (asked : Asked) (text : List ℕ) (scenario : Scenario) (way : Option ℕ) : Type 0 where
  pub time : Option WrittenTime
  pub written : reply_of_text asked text ≡ Ok time
  pub ticks : way_of scenario time ≡ Ok way

-- THE CASE. Of the scenario that is read where that case is asked about it is found what a search with these settings ended with, what the latency is with what keeps its target back, and when the word of its group is back.
pub record IsFound (late : Late) (asked : Asked) (settings : Settings) (text : List ℕ) (found : Found) : Type 0 where
  pub outcome : Outcome
  pub read : scenario_of_text_by asked text ≡ Ok found.scenario
  pub lawful : IsScenario found.scenario
  pub searched : IsEnd settings found.scenario outcome
  pub least : found.least ≡ best_of outcome
  pub most : found.most ≡ upper_of outcome
  pub proved : found.is_proved ≡ is_proved outcome
  -- so some assignment has the one, and none has more than the other
  pub reached : IsReached found.scenario found.least
  pub upper : IsUpper found.scenario found.most
  pub kept_back : IsLate late text found.scenario found.least found.most found.late_least found.late_most
  pub way : HasWay asked text found.scenario found.way
  pub back_least : found.back_least ≡ found.late_least + unwrap_or found.way 0
  pub back_most : found.back_most ≡ found.late_most + unwrap_or found.way 0
  pub measure : found.measure ≡ measure_of_text settings.unit text found.scenario
  pub deadline : found.deadline ≡ target_deadline asked text found.scenario
  pub outside : found.outside ≡ outside_of_text text found.scenario

-- it is found of the case of its number
pub record IsFoundAmong (late : Late) (asked : List Asked) (settings : Settings) (text : List ℕ) (found : Found) : Type 0 where
  pub case : Asked
  pub there : slice_get asked found.number ≡ Some case
  pub is : IsFound late case settings text found

-- what keeps its target back can't be told in its ticks
abbrev pub IsLateRefused : Late → Asked → List ℕ → Fault → Type 0
IsLateRefused lates.Nothing asked text fault = ⊥
IsLateRefused (lates.Outages outage) asked text fault = IsOutageRefused (Some outage) asked text fault
IsLateRefused (lates.Answers span) asked text fault = AreReplicasRefused span asked text fault

-- The client that is named is none, or the way to it has no range.
pub record IsClientRefused (asked : Asked) (text : List ℕ) (fault : Fault) : Type 0 where
  pub cause : ScenarioFault
  pub found : reply_of_text asked text ≡ Err cause
  pub told : fault ≡ told_of cause

-- The word of the target's group takes a time that can't be told in ticks of the scenario.
pub record IsWayRefused (asked : Asked) (text : List ℕ) (fault : Fault) : Type 0 where
  pub scenario : Scenario
  pub time : Option WrittenTime
  pub read : scenario_of_text_by asked text ≡ Ok scenario
  pub written : reply_of_text asked text ≡ Ok time
  pub cause : ReplicaFault
  pub refused : way_of scenario time ≡ Err cause
  pub told : fault ≡ faults.Replicas cause

-- The word would be back after more ticks than can be told.
pub record IsBackTooLate (fault : Fault) : Type 0 where
  pub late : ℕ
  pub way : ℕ
  pub beyond : 4294967295 < late + way
  pub told : fault ≡ faults.Outage TooLong

-- why nothing is found of a case
abbrev pub IsCaseRefused : Late → Asked → List ℕ → Fault → Type 0
IsCaseRefused late asked text fault =
    IsFaultyBy asked text fault ⊎ IsLateRefused late asked text fault ⊎ IsClientRefused asked text fault ⊎ IsWayRefused asked text fault ⊎ IsBackTooLate fault

-- Of the case of that number nothing is found.
pub record IsRefusedAmong (late : Late) (cases : List Asked) (text : List ℕ) (fault : Fault) : Type 0 where
  pub number : ℕ
  pub case : Asked
  pub there : slice_get cases number ≡ Some case
  pub refused : IsCaseRefused late case text fault

-- They are what is found of each of these cases.
pub record AreFound (late : Late) (cases : List Asked) (settings : Settings) (text : List ℕ) (founds : List Found) : Type 0 where
  pub all : map (λ found. found.number) founds ≡ range_with_len 0 (length cases)
  pub found : All (IsFoundAmong late cases settings text) founds

-- PRIVATE
-- what is found of the case of that number, or why nothing is
abbrev pub FindsCase : Late → Asked → Settings → List ℕ → ℕ → Result Found Fault → Type 0
FindsCase late asked settings text number (Ok found) = (found.number ≡ number) × IsFound late asked settings text found
FindsCase late asked settings text number (Err fault) = IsCaseRefused late asked text fault ⊎ (fault ≡ faults.Memory)

-- They are what is found of so many of these cases, the first ones.
pub record AreFoundUpTo (late : Late) (cases : List Asked) (settings : Settings) (text : List ℕ) (count : ℕ) (founds : List Found) : Type 0 where
  pub all : map (λ found. found.number) founds ≡ range_with_len 0 count
  pub found : All (IsFoundAmong late cases settings text) founds

-- what is found of each of these cases, or why nothing is of one
abbrev pub FindsAll : Late → List Asked → Settings → List ℕ → Result (Vec Found Global) Fault → Type 0
FindsAll late cases settings text (Ok founds) = AreFound late cases settings text founds.items
FindsAll late cases settings text (Err fault) = IsRefusedAmong late cases text fault ⊎ (fault ≡ faults.Memory)

-- how long the word takes to the client in ticks, where one is named, or why that can't be told
abbrev pub GivesWay : Asked → List ℕ → Scenario → Result (Option ℕ) Fault → Type 0
GivesWay asked text scenario (Ok way) = HasWay asked text scenario way
GivesWay asked text scenario (Err fault) = IsClientRefused asked text fault ⊎ IsWayRefused asked text fault ⊎ (fault ≡ faults.Memory)

-- what the latency is with what keeps the target back, or why that can't be told
abbrev pub GivesLate : Late → Asked → List ℕ → Scenario → ℕ → ℕ → Result (ℕ × ℕ) Fault → Type 0
GivesLate late asked text scenario least most (Ok (late_least, late_most)) = IsLate late text scenario least most late_least late_most
GivesLate late asked text scenario least most (Err fault) = IsLateRefused late asked text fault ⊎ (fault ≡ faults.Memory)

-- when the word is back, or why that can't be told
abbrev pub GivesBack : ℕ → Option ℕ → Result ℕ Fault → Type 0
GivesBack late way (Ok back) = back ≡ late + unwrap_or way 0
GivesBack late way (Err fault) = IsBackTooLate fault
