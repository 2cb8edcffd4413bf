-- What is proved of traces that fit. Each is the one clause of the function of its name in the crate's module `fits_laws`.
use Rattle.std.specs.Prelude.{◌≡◌, ℕ, ◌*◌, ◌≤◌, Option, Some}
use Rattle.convoy_draft.specs.declared.time.Time.TheVariants.{Real}
use Rattle.convoy_scenario.specs.Scenario.{Scenario}
use Rattle.convoy_scenario.specs.WellFormed.{IsScenario}
use Rattle.convoy_sim.specs.Greatest.{IsUpper}
use Rattle.convoy_traces.specs.Traces.{Trace}
use Rattle.convoy_fits.specs.declared.departure.Departure.{Departure}
use Rattle.convoy_fits.specs.Fits.{Fits, FitsWithin}
use Rattle.convoy_fits.specs.Departures.{IsOutside}

-- a trace that tells something outside of a range or of a window, by more than clocks explain, fits no run by such clocks
abbrev pub OutsideNeverFits : Type 0
OutsideNeverFits =
    (skew : ℕ) (scenario : Scenario) (trace : Trace) (departure : Departure) (latency : Option ℕ)
    → IsOutside skew scenario trace departure → FitsWithin skew scenario trace latency → ⊥

-- without a skew clocks are right
abbrev pub NoSkewIsNone : Type 0
NoSkewIsNone = (scenario : Scenario) (trace : Trace) (latency : Option ℕ) → FitsWithin 0 scenario trace latency → Fits scenario trace latency

-- by clocks that are right a trace fits, too, if they need be right only within some skew
abbrev pub RightClocksFit : Type 0
RightClocksFit = (skew : ℕ) (scenario : Scenario) (trace : Trace) (latency : Option ℕ) → Fits scenario trace latency → FitsWithin skew scenario trace latency

-- in real time a run that a trace fits is no later than what no run in ticks exceeds: so its latency is at most the certified greatest, in fine ticks, however wrong the clocks are
abbrev pub FittingRunsAreBounded : Type 0
FittingRunsAreBounded =
    (skew : ℕ) (scenario : Scenario) (trace : Trace) (latency greatest : ℕ) → IsScenario scenario → scenario.time ≡ Real → IsUpper scenario greatest
    → FitsWithin skew scenario trace (Some latency) → latency ≤ trace.factor * greatest
