-- What is proved of windows, and of what is sure in them. Each is the one clause of the function of its name in the crate's module `sure_laws`.
use Rattle.std.specs.Prelude.{ℕ, ◌≡◌, ◌+◌, ◌-◌, ◌<◌, ◌≤◌, IsTrue}
use Rattle.convoy_scenario.specs.Scenario.{Scenario, GoesTo}
use Rattle.convoy_scenario.specs.WellFormed.{IsScenario}
use Rattle.convoy_packets.specs.Assignment.{Schedule}
use Rattle.convoy_sim.specs.Times.{Tick, arrive, settle}
use Rattle.convoy_sim.specs.Stamps.{local_stamp}
use Rattle.convoy_intervals.specs.Boxes.{Box, IsIn}
use Rattle.convoy_intervals.specs.Bounds.{Tables, Encloses, tables_of}
use Rattle.convoy_sure.specs.Windows.{EnclosesAll, Windows, tables_by, windows_of, with_arrival, with_arrival_by, with_commit, with_commit_by}
use Rattle.convoy_sure.specs.SureLeads.{Sure, is_earlier, lead_at, leads_of, sure_after, sure_later, sure_of, sure_time, top_of}

-- ---- windows
-- two tables say the same of message m at group g
pub record SayTheSame (one other : Tables) (m g : ℕ) : Type 0 where
  pub least_arrival : one.least_arrival m g ≡ other.least_arrival m g
  pub greatest_arrival : one.greatest_arrival m g ≡ other.greatest_arrival m g
  pub least_settling : one.least_settling m g ≡ other.least_settling m g
  pub greatest_settling : one.greatest_settling m g ≡ other.greatest_settling m g

-- at the destinations of messages the windows of a box say what its tables say
abbrev pub WindowsAreTables : Type 0
WindowsAreTables =
    (scenario : Scenario) (ranges : Box) → IsScenario scenario
    → (m g : ℕ) → GoesTo scenario m g → SayTheSame (tables_by (windows_of scenario ranges)).times (tables_of scenario ranges) m g

-- the windows of a box enclose its members
abbrev pub WindowsEncloseMembers : Type 0
WindowsEncloseMembers =
    (scenario : Scenario) (ranges : Box) (schedule : Schedule) → IsScenario scenario → IsIn ranges schedule
    → EnclosesAll scenario schedule (tables_by (windows_of scenario ranges))

-- windows that are cut for an arrival at a tick or later enclose each schedule with such an arrival that they enclosed before
abbrev pub CutsEnclose : Type 0
CutsEnclose =
    (scenario : Scenario) (schedule : Schedule) (windows : Windows) (m k : ℕ) (tick : Tick) → IsScenario scenario
    → EnclosesAll scenario schedule (tables_by windows)
    → GoesTo scenario m k → tick ≤ arrive scenario schedule m k
    → EnclosesAll scenario schedule (tables_by (with_arrival scenario windows m k tick))

-- the same of those that are cut for an arrival by a tick, ..
abbrev pub CutsByArrivalEnclose : Type 0
CutsByArrivalEnclose =
    (scenario : Scenario) (schedule : Schedule) (windows : Windows) (m k : ℕ) (tick : Tick) → IsScenario scenario
    → EnclosesAll scenario schedule (tables_by windows)
    → GoesTo scenario m k → arrive scenario schedule m k ≤ tick
    → EnclosesAll scenario schedule (tables_by (with_arrival_by scenario windows m k tick))

-- .. for a commit at a tick or later, ..
abbrev pub CutsForCommitEnclose : Type 0
CutsForCommitEnclose =
    (scenario : Scenario) (schedule : Schedule) (windows : Windows) (m k : ℕ) (tick : Tick) → IsScenario scenario
    → EnclosesAll scenario schedule (tables_by windows)
    → GoesTo scenario m k → tick ≤ settle scenario schedule m k
    → EnclosesAll scenario schedule (tables_by (with_commit windows m k tick))

-- .. and for a commit by a tick
abbrev pub CutsByCommitEnclose : Type 0
CutsByCommitEnclose =
    (scenario : Scenario) (schedule : Schedule) (windows : Windows) (m k : ℕ) (tick : Tick) → IsScenario scenario
    → EnclosesAll scenario schedule (tables_by windows)
    → GoesTo scenario m k → settle scenario schedule m k ≤ tick
    → EnclosesAll scenario schedule (tables_by (with_commit_by scenario windows m k tick))

-- ---- what is sure
-- of what surely arrives at a group after message q does, if that arrives there by a tick, the stamp there is of greater time
abbrev pub SureArrivalsRise : Type 0
SureArrivalsRise =
    (scenario : Scenario) (schedule : Schedule) (tables : Tables) → IsScenario scenario → Encloses scenario schedule tables
    → (q g : ℕ) (tick : Tick) → GoesTo scenario q g → arrive scenario schedule q g ≤ tick
    → (z : ℕ) → GoesTo scenario z g → IsTrue (is_earlier scenario.time tick q (tables.least_arrival z g) z)
    → (local_stamp scenario schedule q g).time < (local_stamp scenario schedule z g).time

-- what is sure of message n at the target's group is so in a schedule: its stamp there has the lead over each other one that the table of leads says, and, over that of message q at group g, as much as the top of the leads over all that surely arrive at g after q does, and over all that surely arrive at one of q's groups after q is committed there; and it has at least the sure time
pub record IsSure (scenario : Scenario) (schedule : Schedule) (tables : Tables) (n : ℕ) (sure : Sure) : Type 0 where
  pub leads_hold : (q g : ℕ) → GoesTo scenario q g
      → lead_at sure.leads q g ≤ ((local_stamp scenario schedule n scenario.target_group).time + 1) - (local_stamp scenario schedule q g).time
  pub after_holds : (q g : ℕ) (tick : Tick) → GoesTo scenario q g → arrive scenario schedule q g ≤ tick
      → top_of (λ z. lead_at sure.leads z g) (sure_after scenario tables tick q g)
      ≤ ((local_stamp scenario schedule n scenario.target_group).time + 1) - (local_stamp scenario schedule q g).time
  pub later_holds : (q g y : ℕ) (tick : Tick) → GoesTo scenario q g → GoesTo scenario q y → settle scenario schedule q y ≤ tick
      → top_of (λ z. lead_at sure.leads z y) (sure_later scenario tables tick y)
      ≤ ((local_stamp scenario schedule n scenario.target_group).time + 1) - (local_stamp scenario schedule q g).time
  pub time_holds : sure.time ≤ (local_stamp scenario schedule n scenario.target_group).time

-- what is sure by tables is so in each schedule whose arrival and settling they enclose
abbrev pub WhatIsSureHolds : Type 0
WhatIsSureHolds =
    (scenario : Scenario) (schedule : Schedule) (tables : Tables) → IsScenario scenario → Encloses scenario schedule tables
    → (n : ℕ) → GoesTo scenario n scenario.target_group → IsSure scenario schedule tables n (sure_of scenario tables n)

-- the stamp of message n at the target's group has at least the lead over each other one that its table of leads says, ..
abbrev pub HasLeads : Scenario → Schedule → Tables → ℕ → Type 0
HasLeads scenario schedule tables n =
    (q g : ℕ) → GoesTo scenario q g → 0 < lead_at (leads_of scenario tables n) q g
    → (local_stamp scenario schedule q g).time + lead_at (leads_of scenario tables n) q g
    ≤ (local_stamp scenario schedule n scenario.target_group).time + 1

-- .. and it has at least its sure time, over any tables that enclose arrival and settling
abbrev pub SureLeadsHold : Type 0
SureLeadsHold =
    (scenario : Scenario) (schedule : Schedule) (tables : Tables) → IsScenario scenario → Encloses scenario schedule tables
    → (n : ℕ) → GoesTo scenario n scenario.target_group
    → HasLeads scenario schedule tables n
    × (sure_time scenario (leads_of scenario tables n) ≤ (local_stamp scenario schedule n scenario.target_group).time)
