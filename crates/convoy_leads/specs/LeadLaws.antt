-- What is proved of leads. Each is the one clause of the function of its name in the crate's module `lead_laws`.
use Rattle.std.specs.Prelude.{ℕ, ◌≤◌, IsFalse, IsTrue}
use Rattle.convoy_scenario.specs.Scenario.{GoesTo, Scenario}
use Rattle.convoy_scenario.specs.WellFormed.{IsScenario}
use Rattle.convoy_packets.specs.Assignment.{Schedule, IsAssignment}
use Rattle.convoy_sim.specs.Times.{Tick, arrive}
use Rattle.convoy_sim.specs.Stamps.{final_stamp, is_less, local_stamp}
use Rattle.convoy_sim.specs.Delivery.{latency_of}
use Rattle.convoy_intervals.specs.Boxes.{Box, IsIn}
use Rattle.convoy_intervals.specs.Bounds.{plain_bound}
use Rattle.convoy_sure.specs.Windows.{EnclosesAll, Windows, tables_by}
use Rattle.convoy_leads.specs.Closing.{closes_over, closes_by_leads, is_behind_after}

-- where windows enclose an assignment and are closed for a latency, it has no greater one
abbrev pub ClosedHoldsOverWindows : Type 0
ClosedHoldsOverWindows =
    (scenario : Scenario) (schedule : Schedule) (windows : Windows) (latency : ℕ)
    → IsScenario scenario
    → IsAssignment scenario schedule
    → EnclosesAll scenario schedule (tables_by windows)
    → IsTrue (closes_over scenario windows latency)
    → latency_of scenario schedule ≤ latency

-- where windows enclose an assignment, a message that arrives at a group at a tick or later, and is behind where it does, is not ahead of the target
abbrev pub BehindIsNotAhead : Type 0
BehindIsNotAhead =
    (scenario : Scenario) (schedule : Schedule) (windows : Windows) (n k : ℕ) (tick : Tick)
    → IsScenario scenario
    → IsAssignment scenario schedule
    → EnclosesAll scenario schedule (tables_by windows)
    → GoesTo scenario n scenario.target_group
    → GoesTo scenario n k
    → tick ≤ arrive scenario schedule n k
    → IsTrue (is_behind_after scenario windows n k tick)
    → IsFalse (is_less (local_stamp scenario schedule n scenario.target_group) (final_stamp scenario schedule scenario.target_message))

-- no assignment in a box that leads close for a latency has a greater one
abbrev pub LeadsHold : Type 0
LeadsHold =
    (scenario : Scenario) (ranges : Box) (schedule : Schedule) (latency : ℕ)
    → IsScenario scenario
    → IsAssignment scenario schedule
    → IsIn ranges schedule
    → IsTrue (closes_by_leads scenario ranges latency)
    → latency_of scenario schedule ≤ latency

-- leads close each box for its plain bound
abbrev pub ClosesAtPlain : Type 0
ClosesAtPlain =
    (scenario : Scenario) (ranges : Box) → IsScenario scenario → IsTrue (closes_by_leads scenario ranges (plain_bound scenario ranges))
