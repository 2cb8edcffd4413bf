-- When a trace fits a scenario.
use Rattle.std.specs.Prelude.{◌≡◌, ℕ, ◌==◌, ◌≤◌, ◌&&◌, max, if◌then◌else◌, List, [], ◌∷◌, Option, Some, None, option_map, All}
use Rattle.convoy_scenario.specs.Scenario.{GoesTo, Scenario}
use Rattle.convoy_packets.specs.Assignment.{Schedule}
use Rattle.convoy_sim.specs.Delivery.{deliver, latency_of}
use Rattle.convoy_traces.specs.declared.told.Event.{Event}
use Rattle.convoy_traces.specs.declared.told.Event.TheVariants.{Delivery}
use Rattle.convoy_traces.specs.declared.told.Told.{Told}
use Rattle.convoy_traces.specs.Told.{is_same_event}
use Rattle.convoy_traces.specs.Traces.{Trace}
use Rattle.convoy_fits.specs.Runs.{IsDone, IsRealRun}
use Rattle.convoy_fits.specs.Skews.{IsSkewed}

-- when the event of a message is told to have happened
abbrev pub time_told : List Told → ℕ → Event → Option ℕ
time_told [] m event = None
time_told (one ∷ told) m event = if (one.message == m) && is_same_event one.event event then Some one.time else time_told told m event

-- the last time that is told: of what happens at it or later nothing need be told
abbrev pub end_from : ℕ → List Told → ℕ
end_from last [] = last
end_from last (one ∷ told) = end_from (max last one.time) told

abbrev pub end_of : List Told → ℕ
end_of told = end_from 0 told

-- each delivery that is not told comes at the end or later
abbrev pub NoneIsMissing : Scenario → Schedule → List Told → Type 0
NoneIsMissing scenario schedule told =
    (m g : ℕ) → GoesTo scenario m g → time_told told m (Delivery g) ≡ None → end_of told ≤ deliver scenario schedule m g

-- when the target is told to be delivered
abbrev pub target_told : Scenario → Trace → Option ℕ
target_told scenario trace = time_told trace.told scenario.target_message (Delivery scenario.target_group)

-- THE HEADLINE. A trace fits a scenario if some real run of the scenario does all that it tells, and no delivery is missing. The latency of the target in that run is stated, in fine ticks, just where its delivery is told.
pub record Fits (scenario : Scenario) (trace : Trace) (latency : Option ℕ) : Type 0 where
  pub finer : Scenario
  pub schedule : Schedule
  pub run : IsRealRun trace.factor scenario finer schedule
  pub done : All (IsDone finer schedule) trace.told
  pub complete : NoneIsMissing finer schedule trace.told
  pub late : latency ≡ option_map (λ time. latency_of finer schedule) (target_told scenario trace)

-- A trace fits by clocks that are right within the skew, in fine ticks, if it does so by clocks that are right: each clock is wrong by as much all the time.
pub record FitsWithin (skew : ℕ) (scenario : Scenario) (trace : Trace) (latency : Option ℕ) : Type 0 where
  pub other : Trace
  pub skewed : IsSkewed skew scenario trace other
  pub fits : Fits scenario other latency
