-- What the command `sweep` answers: a table or a curve, or the fault of a command that tells why there is none.
use Rattle.std.specs.Prelude.{◌≡◌, ℕ, Bool, List, Ok, Err}
use Rattle.convoy_toml.specs.declared.asked.Asked.{Asked}
use Rattle.convoy_branch.specs.Options.{Settings}
use Rattle.convoy_tables.specs.declared.format.Format.{Format}
use Rattle.convoy_commands.specs.declared.fault.Fault.{Fault}
use Rattle.convoy_commands.specs.declared.fault.Fault.TheVariants as faults
use Rattle.convoy_commands.specs.declared.fault.SweepCause.{SweepCause}
use Rattle.convoy_commands.specs.declared.fault.SweepCause.TheVariants as causes
use Rattle.convoy_commands.specs.Faults.{told_of}
use Rattle.convoy_commands.specs.Replies.{Rule}
use Rattle.convoy_sweep.specs.declared.fault.SettingFault.{SettingFault}
use Rattle.convoy_sweep.specs.declared.fault.SettingFault.TheVariants as settings
use Rattle.convoy_sweep.specs.declared.fault.SweepFault.{SweepFault}
use Rattle.convoy_sweep.specs.declared.fault.SweepFault.TheVariants as sweeps
use Rattle.convoy_sweep.specs.declared.kinds.Setting.{Setting}
use Rattle.convoy_sweep.specs.declared.kinds.Sweep.{Sweep}
use Rattle.convoy_sweep.specs.Answers.{IsSweepTold}
use Rattle.convoy_sweep.specs.Curves.{IsCurveTold, of_one}
use Rattle.convoy_sweep.specs.Points.{prepared_of}

-- why a setting gives its key no values, as a command tells it
abbrev pub cause_of_setting : SettingFault → SweepCause
cause_of_setting settings.Unknown = causes.UnknownKey
cause_of_setting settings.Ambiguous = causes.SeveralTables
cause_of_setting settings.NoWindow = causes.NoIssue
cause_of_setting settings.Mixed = causes.MixedTimes
cause_of_setting settings.NotWhole = causes.NotWhole
cause_of_setting settings.TooLate = causes.BeyondLimits
cause_of_setting settings.NoStep = causes.NoStep
cause_of_setting settings.Backwards = causes.Backwards
cause_of_setting settings.TooMany = causes.TooManyValues
cause_of_setting settings.NoInterval = causes.OneValue

-- why a text gives no sweep, as a command tells it: of a scenario that values do not make, the value of the first key
abbrev pub told_of_sweep : SweepFault → Fault
told_of_sweep (sweeps.Text cause) = told_of cause
told_of_sweep (sweeps.First cause) = faults.Sweep (cause_of_setting cause)
told_of_sweep (sweeps.Second cause) = faults.Sweep (cause_of_setting cause)
told_of_sweep sweeps.SameKey = faults.Sweep causes.KeyTwice
told_of_sweep sweeps.TooManyRows = faults.Sweep causes.TooManyValues
told_of_sweep (sweeps.Value point cause) = faults.Sweep (causes.NoScenario point.first.value)

-- The keys of the text can't be given these values, for the first cause that there is.
pub record HasNoSweep (sweep : Sweep) (envelope : Bool) (asked : Asked) (text : List ℕ) (fault : Fault) : Type 0 where
  pub cause : SweepFault
  pub found : prepared_of sweep envelope asked text ≡ Err cause
  pub told : fault ≡ told_of_sweep cause

-- what `sweep` may answer for a text
abbrev pub SweepTold : Format → Sweep → Bool → Asked → Settings → Rule
SweepTold format sweep envelope asked settings text (Ok (end, out)) = IsSweepTold format sweep envelope asked settings text end out
SweepTold format sweep envelope asked settings text (Err fault) = HasNoSweep sweep envelope asked text fault

-- what `sweep` may answer for a text where a curve is asked for
abbrev pub CurveTold : Setting → Bool → Asked → Settings → Rule
CurveTold setting envelope asked settings text (Ok (end, out)) = IsCurveTold setting envelope asked settings text end out
CurveTold setting envelope asked settings text (Err fault) = HasNoSweep (of_one setting) envelope asked text fault
