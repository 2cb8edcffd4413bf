-- For private clauses: what gives the parts of a report, or fails.
use Rattle.std.specs.Prelude.{◌≡◌, ◌⊎◌, ℕ, List, Option, Some, None, option_map, Result, Ok, Err, Vec, String, string_bytes}
use Rattle.std.specs.Global.{Global}
use Rattle.convoy_draft.specs.declared.duration.TimeUnit.{TimeUnit}
use Rattle.convoy_scenario.specs.Scenario.{Scenario}
use Rattle.convoy_toml.specs.declared.asked.Asked.{Asked}
use Rattle.convoy_branch.specs.Options.{Settings}
use Rattle.convoy_commands.specs.declared.asking.Asking.{Asking}
use Rattle.convoy_commands.specs.declared.done.Done.TheVariants.{Fine}
use Rattle.convoy_commands.specs.declared.fault.Fault.{Fault}
use Rattle.convoy_commands.specs.declared.fault.Fault.TheVariants.{Memory}
use Rattle.convoy_commands.specs.Asks.{AskSays}
use Rattle.convoy_report.specs.declared.report.Report.{Report}
use Rattle.convoy_report.specs.declared.report.Run.{Run}
use Rattle.convoy_report.specs.declared.report.Shown.{Shown}
use Rattle.convoy_report.specs.Reports.{AreRunsOf, IsDigestOf, IsFaultyAt, IsNotAccepted, IsRunOf, IsShown, IsTold, IsUntold, place_of}

-- what is answered where a certificate is accepted
abbrev pub GivesAccepted : Asking → List ℕ → Result (Option (Vec ℕ Global)) Fault → Type 0
GivesAccepted asking found (Ok (Some out)) = AskSays asking found (Ok (Fine, out.items))
GivesAccepted asking found (Ok None) = IsNotAccepted found
GivesAccepted asking found (Err fault) = fault ≡ Memory

-- what is shown of a run
abbrev pub GivesShown : Option TimeUnit → List ℕ → Result Shown Fault → Type 0
GivesShown unit found (Ok shown) = IsShown unit found shown
GivesShown unit found (Err fault) = fault ≡ Memory

-- the fault of a search for a run
abbrev pub IsRunFault : Asked → List ℕ → Fault → Type 0
IsRunFault asked text fault = IsFaultyAt asked text fault ⊎ (fault ≡ Memory)

-- the run of a target
abbrev pub GivesRun : Asked → Settings → List ℕ → Scenario → ℕ × ℕ → Result Run Fault → Type 0
GivesRun asked settings text scenario target (Ok run) = (place_of run ≡ target) × IsRunOf asked settings text scenario run
GivesRun asked settings text scenario target (Err fault) = IsRunFault asked text fault

-- the runs of targets
abbrev pub GivesRuns : Asked → Settings → List ℕ → Scenario → List (ℕ × ℕ) → Result (Vec Run Global) Fault → Type 0
GivesRuns asked settings text scenario targets (Ok runs) = AreRunsOf asked settings text scenario targets runs.items
GivesRuns asked settings text scenario targets (Err fault) = IsRunFault asked text fault

-- the digest
abbrev pub GivesDigest : List ℕ → Result (Option (String Global)) Fault → Type 0
GivesDigest text (Ok digest) = IsDigestOf text (option_map string_bytes digest)
GivesDigest text (Err fault) = fault ≡ Memory

-- all that a report tells
abbrev pub GivesReport : Asked → Settings → List ℕ → Result Report Fault → Type 0
GivesReport asked settings text (Ok report) = IsTold asked settings text report
GivesReport asked settings text (Err fault) = IsUntold asked text fault ⊎ (fault ≡ Memory)
