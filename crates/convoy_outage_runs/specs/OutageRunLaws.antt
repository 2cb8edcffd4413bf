-- What is proved of runs through outages. Each is the one clause of the function of its name in the crate's module `outage_run_laws`.
use Rattle.std.specs.Prelude.{◌≡◌, ℕ, ◌+◌, ◌≤◌, IsTrue}
use Rattle.convoy_draft.specs.declared.time.Time.TheVariants.{Real}
use Rattle.convoy_scenario.specs.Scenario.{Scenario}
use Rattle.convoy_scenario.specs.WellFormed.{IsScenario}
use Rattle.convoy_sim.specs.Greatest.{IsUpper}
use Rattle.convoy_outages.specs.OutageCeiling.{outage_ceiling_at}
use Rattle.convoy_outage_runs.specs.OutageRuns.{IsUpperOfRuns}
use Rattle.convoy_outage_runs.specs.Compressed.{compressed, is_within_limits, saved_ticks, shortest_travel}

-- In real time, by how much soever outages are compressed, if only no packet takes less than one tick then: no run through outages is later than the runs of the compressed scenario allow, but by the ticks that are saved. A factor of 1 lets each packet take an outage longer; the greater it is, the less an outage costs each packet, and the more it costs once for all.
abbrev pub CompressedRunsAreAsLate : Type 0
CompressedRunsAreAsLate =
    (factor span latency : ℕ) (scenario : Scenario)
    → IsScenario scenario → scenario.time ≡ Real → 1 ≤ factor → factor ≤ shortest_travel scenario
    → IsScenario (compressed factor span scenario) → IsUpper (compressed factor span scenario) latency
    → IsUpperOfRuns span scenario (latency + saved_ticks factor span)

-- In real time a compressed scenario that is within the limits is one.
abbrev pub CompressedIsScenario : Type 0
CompressedIsScenario =
    (factor span : ℕ) (scenario : Scenario)
    → IsScenario scenario → scenario.time ≡ Real → 1 ≤ factor → IsTrue (is_within_limits (compressed factor span scenario))
    → IsScenario (compressed factor span scenario)

-- In both kinds of time no run through outages is later than the ceiling through outages.
abbrev pub RunsAreWithinOutageCeiling : Type 0
RunsAreWithinOutageCeiling =
    (span : ℕ) (scenario : Scenario) → IsScenario scenario
    → IsUpperOfRuns span scenario (outage_ceiling_at scenario span scenario.target_message scenario.target_group)

-- What no run through outages exceeds no run without them does, either.
abbrev pub UpperOfRunsIsUpper : Type 0
UpperOfRunsIsUpper = (span latency : ℕ) (scenario : Scenario) → IsScenario scenario → IsUpperOfRuns span scenario latency → IsUpper scenario latency
