-- What is proved of boxes inside other boxes, and of the latencies for which leads close a box. Each is the one clause of the function of its name in the crate's module `monotone`.
use Rattle.std.specs.Prelude.{ℕ, ◌≤◌, IsTrue}
use Rattle.convoy_scenario.specs.Scenario.{Scenario}
use Rattle.convoy_scenario.specs.WellFormed.{IsScenario}
use Rattle.convoy_intervals.specs.Boxes.{Box, AreRanges}
use Rattle.convoy_intervals.specs.Bounds.{Tables, tables_of, plain_bound_over, plain_bound}
use Rattle.convoy_stamps.specs.StampBounds.{stamp_bound_over, stamp_bound}
use Rattle.convoy_leads.specs.Closing.{closes_by_leads}
use Rattle.convoy_laws.specs.Narrower.{IsInsideBox, AreNarrower}

-- the tables of a box inside another one are narrower than those of the other one
abbrev pub InnerTablesAreNarrower : Type 0
InnerTablesAreNarrower =
    (scenario : Scenario) (outer inner : Box) → IsInsideBox outer inner → AreNarrower scenario (tables_of scenario outer) (tables_of scenario inner)

-- over narrower tables the plain bound is no greater
abbrev pub PlainBoundFallsOverTables : Type 0
PlainBoundFallsOverTables =
    (scenario : Scenario) (outer inner : Tables)
    → IsScenario scenario
    → AreNarrower scenario outer inner
    → plain_bound_over scenario inner ≤ plain_bound_over scenario outer

-- a box inside another one has no greater plain bound
abbrev pub PlainBoundFalls : Type 0
PlainBoundFalls =
    (scenario : Scenario) (outer inner : Box)
    → IsScenario scenario
    → IsInsideBox outer inner
    → plain_bound scenario inner ≤ plain_bound scenario outer

-- over narrower tables the stamp bound is no greater
abbrev pub StampBoundFallsOverTables : Type 0
StampBoundFallsOverTables =
    (scenario : Scenario) (outer inner : Tables)
    → IsScenario scenario
    → AreNarrower scenario outer inner
    → stamp_bound_over scenario inner ≤ stamp_bound_over scenario outer

-- a box inside another one has no greater stamp bound
abbrev pub StampBoundFalls : Type 0
StampBoundFalls =
    (scenario : Scenario) (outer inner : Box)
    → IsScenario scenario
    → IsInsideBox outer inner
    → stamp_bound scenario inner ≤ stamp_bound scenario outer

-- leads close a box inside another one for each latency for which they close that one
abbrev pub LeadsCloseInside : Type 0
LeadsCloseInside =
    (scenario : Scenario) (outer inner : Box) (latency : ℕ)
    → IsScenario scenario
    → IsInsideBox outer inner
    → IsTrue (closes_by_leads scenario outer latency)
    → IsTrue (closes_by_leads scenario inner latency)

-- leads that close a box for a latency close it for each greater one
abbrev pub LeadsCloseForMore : Type 0
LeadsCloseForMore =
    (scenario : Scenario) (ranges : Box) (latency more : ℕ)
    → IsScenario scenario
    → AreRanges ranges
    → latency ≤ more
    → IsTrue (closes_by_leads scenario ranges latency)
    → IsTrue (closes_by_leads scenario ranges more)

-- leads close a box for each latency that is no less than its plain bound
abbrev pub LeadsCloseFromPlain : Type 0
LeadsCloseFromPlain =
    (scenario : Scenario) (ranges : Box) (latency : ℕ)
    → IsScenario scenario
    → plain_bound scenario ranges ≤ latency
    → IsTrue (closes_by_leads scenario ranges latency)
