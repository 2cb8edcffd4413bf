-- What `fits` writes: whether a trace of a real run is one of a run of a scenario.
use Rattle.std.specs.Prelude.{◌≡◌, ◌⊎◌, ℕ, Bool, true, false, List, Option, None, Result, Ok, Err, Vec, IsFalse}
use Rattle.std.specs.Global.{Global}
use Rattle.convoy_draft.specs.declared.duration.TimeUnit.{TimeUnit}
use Rattle.convoy_scenario.specs.Scenario.{Scenario}
use Rattle.convoy_times.specs.Measures.{measure_by}
use Rattle.convoy_traces.specs.declared.fault.TraceFault.{TraceFault}
use Rattle.convoy_traces.specs.declared.fault.TraceFault.TheVariants.{TooFine}
use Rattle.convoy_traces.specs.declared.clock.Clock.{Clock}
use Rattle.convoy_traces.specs.Entries.{clock_by}
use Rattle.convoy_traces.specs.Traces.{Trace, trace_of_text}
use Rattle.convoy_fits.specs.declared.departure.Verdict.{Verdict}
use Rattle.convoy_fits.specs.declared.departure.Verdict.TheVariants.{Fits, Outside, Departs}
use Rattle.convoy_fits.specs.Answers.{IsVerdict}
use Rattle.convoy_fits.specs.Limits.{is_within_limits}
use Rattle.convoy_fits_told.specs.declared.skew.Skew.{Skew}
use Rattle.convoy_fits_told.specs.Scales.{fine_skew, scale_by}
use Rattle.convoy_fits_told.specs.Words.{verdict_text}

-- whether the trace fits
abbrev pub is_fit : Verdict → Bool
is_fit (Fits latency) = true
is_fit (Outside departure) = false
is_fit (Departs departure) = false

-- the clock of a trace, with times in this unit
abbrev pub clock_in : Option TimeUnit → Scenario → Clock
clock_in unit scenario = clock_by (measure_by unit None scenario)

-- the trace that a text is, with times in this unit
abbrev pub trace_in : Option TimeUnit → Scenario → List ℕ → Result Trace TraceFault
trace_in unit scenario text = trace_of_text scenario (clock_in unit scenario) text

-- THE HEADLINE. What is written is a right verdict on the trace that was read, by clocks that are right within the skew: where it fits, some run of the scenario does all that it tells; where it departs, it does so there.
pub record IsFitTold (unit : Option TimeUnit) (skew : Skew) (scenario : Scenario) (text : List ℕ) (fits : Bool) (out : List ℕ) : Type 0 where
  pub trace : Trace
  pub read : trace_in unit scenario text ≡ Ok trace
  pub verdict : Verdict
  pub right : IsVerdict (fine_skew (clock_in unit scenario) trace.factor skew) scenario trace verdict
  pub told : fits ≡ is_fit verdict
  pub written :
      out ≡ verdict_text (scale_by (clock_in unit scenario) trace.factor) scenario trace (fine_skew (clock_in unit scenario) trace.factor skew) verdict

-- the scenario in the fine ticks of a trace is beyond the limits, and that is the fault
abbrev pub IsBeyond : Scenario → Trace → TraceFault → Type 0
IsBeyond scenario trace fault = (fault ≡ TooFine trace.factor) × IsFalse (is_within_limits scenario trace)

-- the trace was read, and the scenario in its fine ticks is beyond the limits
pub record IsTooFine (unit : Option TimeUnit) (scenario : Scenario) (text : List ℕ) (fault : TraceFault) : Type 0 where
  pub trace : Trace
  pub read : trace_in unit scenario text ≡ Ok trace
  pub beyond : IsBeyond scenario trace fault

-- what was answered, with its text as a list
abbrev pub fits_told : Result (Bool × Vec ℕ Global) TraceFault → Result (Bool × List ℕ) TraceFault
fits_told (Ok (fits, text)) = Ok (fits, text.items)
fits_told (Err fault) = Err fault

-- what `fits` may answer
abbrev pub FitsSays : Option TimeUnit → Skew → Scenario → List ℕ → Result (Bool × List ℕ) TraceFault → Type 0
FitsSays unit skew scenario text (Ok (fits, out)) = IsFitTold unit skew scenario text fits out
FitsSays unit skew scenario text (Err fault) = (trace_in unit scenario text ≡ Err fault) ⊎ IsTooFine unit scenario text fault
