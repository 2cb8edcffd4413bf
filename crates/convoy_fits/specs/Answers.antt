-- What the judge answers for a trace.
use Rattle.std.specs.Prelude.{ℕ, IsFalse}
use Rattle.convoy_scenario.specs.Scenario.{Scenario}
use Rattle.convoy_traces.specs.Traces.{Trace}
use Rattle.convoy_fits.specs.declared.departure.Verdict.{Verdict}
use Rattle.convoy_fits.specs.declared.departure.Verdict.TheVariants as verdicts
use Rattle.convoy_fits.specs.declared.fault.FitsFault.{FitsFault}
use Rattle.convoy_fits.specs.declared.fault.FitsFault.TheVariants.{Limits, Memory}
use Rattle.convoy_fits.specs.Fits.{Fits, FitsWithin}
use Rattle.convoy_fits.specs.Departures.{DepartsWithin, IsDeparture, IsOutside}
use Rattle.convoy_fits.specs.Limits.{is_within_limits}

-- a verdict is right: a trace that is said to fit does, with that latency, and a departure is one
abbrev pub IsVerdict : ℕ → Scenario → Trace → Verdict → Type 0
IsVerdict skew scenario trace (verdicts.Fits latency) = FitsWithin skew scenario trace latency
IsVerdict skew scenario trace (verdicts.Outside departure) = IsOutside skew scenario trace departure
IsVerdict skew scenario trace (verdicts.Departs departure) = DepartsWithin skew scenario trace departure

-- the same by clocks that are right
abbrev pub IsRightVerdict : Scenario → Trace → Verdict → Type 0
IsRightVerdict scenario trace (verdicts.Fits latency) = Fits scenario trace latency
IsRightVerdict scenario trace (verdicts.Outside departure) = ⊥
IsRightVerdict scenario trace (verdicts.Departs departure) = IsDeparture scenario trace departure

-- a fault has its cause; that memory ran out needs none
abbrev pub HasCause : Scenario → Trace → FitsFault → Type 0
HasCause scenario trace Limits = IsFalse (is_within_limits scenario trace)
HasCause scenario trace Memory = Unit {0}
