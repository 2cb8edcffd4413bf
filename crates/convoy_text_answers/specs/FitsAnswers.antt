-- What is answered for a trace of a real run.
use Rattle.std.specs.Prelude.{◌≡◌, ℕ, Bool, true, false, if◌then◌else◌, List, Option, Some, None, is_none, Ok, Err}
use Rattle.convoy_draft.specs.declared.duration.TimeUnit.{TimeUnit}
use Rattle.convoy_draft.specs.declared.fault.Key.TheVariants.{Delay, Tick}
use Rattle.convoy_draft.specs.declared.fault.ScenarioFault.TheVariants.{Shape}
use Rattle.convoy_scenario.specs.Scenario.{Scenario}
use Rattle.convoy_traces.specs.declared.fault.TraceFault.{TraceFault}
use Rattle.convoy_fits_told.specs.declared.skew.Skew.{Skew}
use Rattle.convoy_fits_told.specs.declared.skew.Skew.TheVariants.{Ticks, Lasting}
use Rattle.convoy_fits_told.specs.Told.{FitsSays, IsFitTold}
use Rattle.convoy_commands.specs.declared.done.Done.{Done}
use Rattle.convoy_commands.specs.declared.done.Done.TheVariants.{Fine, Departs}
use Rattle.convoy_commands.specs.declared.fault.Fault.{Fault}
use Rattle.convoy_commands.specs.declared.fault.Fault.TheVariants as faults
use Rattle.convoy_commands.specs.Faults.{told_of_trace}
use Rattle.convoy_commands.specs.Replies.{Rule}

-- how it ends, by whether the trace fits
abbrev pub end_of_fits : Bool → Done
end_of_fits fits = if fits then Fine else Departs

-- the skew is a duration, and it is not known how long a tick is
abbrev pub is_unmeasured : Scenario → Skew → Bool
is_unmeasured scenario (Ticks ticks) = false
is_unmeasured scenario (Lasting length) = is_none scenario.tick

-- What is written is a right verdict on the trace of the text, and it ends so.
pub record IsFitEnded (scenario : Scenario) (skew : Skew) (unit : Option TimeUnit) (text : List ℕ) (end : Done) (out : List ℕ) : Type 0 where
  pub fits : Bool
  pub told : IsFitTold unit skew scenario text fits out
  pub ends : end ≡ end_of_fits fits

-- the text is no trace of the scenario, or one with times that are too fine
pub record IsFaultyTrace (scenario : Scenario) (skew : Skew) (unit : Option TimeUnit) (text : List ℕ) (fault : Fault) : Type 0 where
  pub cause : TraceFault
  pub found : FitsSays unit skew scenario text (Err cause)
  pub told : fault ≡ told_of_trace cause

-- what may be answered where that scenario is wanted, and the skew says something
abbrev pub JudgedSays : Scenario → Skew → Option TimeUnit → Rule
JudgedSays scenario skew unit text (Ok (end, out)) = IsFitEnded scenario skew unit text end out
JudgedSays scenario skew unit text (Err fault) = IsFaultyTrace scenario skew unit text fault

-- the fault where the skew says nothing: that of a scenario text with durations and no tick
abbrev pub NoTickSays : Rule
NoTickSays text reply = reply ≡ Err (faults.Scenario (Shape Tick))

-- what may be answered, by whether the skew says nothing
abbrev pub says_by : Bool → Scenario → Skew → Option TimeUnit → Rule
says_by true scenario skew unit = NoTickSays
says_by false scenario skew unit = JudgedSays scenario skew unit

abbrev pub TraceSays : Scenario → Skew → Option TimeUnit → Rule
TraceSays scenario skew unit = says_by (is_unmeasured scenario skew) scenario skew unit

-- the fault where none is: that of a scenario text with nothing in it
abbrev pub NoScenarioSays : Rule
NoScenarioSays text reply = reply ≡ Err (faults.Scenario (Shape Delay))

abbrev pub trace_says : Option Scenario → Skew → Option TimeUnit → Rule
trace_says None skew unit = NoScenarioSays
trace_says (Some scenario) skew unit = TraceSays scenario skew unit
