-- The law of the listed order: the greatest latency of a message at a group depends on the order in which groups are listed only by which other destinations of the message stand behind that group, and it grows with these. The ceiling does not depend on the order.
use Rattle.std.specs.Prelude.{◌≡◌, ℕ, ◌<◌, ◌≤◌}
use Rattle.convoy_scenario.specs.Scenario.{Scenario, GoesTo}
use Rattle.convoy_scenario.specs.WellFormed.{IsScenario}
use Rattle.convoy_packets.specs.Assignment.{Schedule, IsAssignment}
use Rattle.convoy_sim.specs.Times.{issue, arrive, settle}
use Rattle.convoy_sim.specs.Stamps.{local_stamp}
use Rattle.convoy_sim.specs.Delivery.{latency_at}
use Rattle.convoy_ceiling.specs.Ceiling.{ceiling_at, ceiling_of}
use Rattle.convoy_orders.specs.GreatestAt.{IsUpperAt, IsGreatestAt}
use Rattle.convoy_orders.specs.Renumbered.{IsRenumbered}

-- those destinations of message m that stand behind its group g in the other scenario do so in the scenario
abbrev pub NoMoreAreBehind : (ℕ → ℕ) → Scenario → ℕ → ℕ → Type 0
NoMoreAreBehind renumber scenario m g = (h : ℕ) → GoesTo scenario m h → renumber g < renumber h → g < h

-- the destinations of message m that stand behind its group g are the same in both
pub record AreSameBehind (renumber : ℕ → ℕ) (scenario : Scenario) (m g : ℕ) : Type 0 where
  pub no_more : NoMoreAreBehind renumber scenario m g
  pub no_fewer : (h : ℕ) → GoesTo scenario m h → g < h → renumber g < renumber h

-- a run of the one and a run of the other: all is issued, arrives and is committed at the same ticks, and the local stamps are of the same times
pub record IsSameRun (renumber : ℕ → ℕ) (scenario : Scenario) (schedule : Schedule) (other : Scenario) (run : Schedule) : Type 0 where
  pub issues : (m : ℕ) → issue other run m ≡ issue scenario schedule m
  pub arrives : (m g : ℕ) → arrive other run m (renumber g) ≡ arrive scenario schedule m g
  pub settles : (m g : ℕ) → settle other run m (renumber g) ≡ settle scenario schedule m g
  pub stamps : (m g : ℕ) → GoesTo scenario m g → (local_stamp other run m (renumber g)).time ≡ (local_stamp scenario schedule m g).time

-- For each run of the other scenario there is one of the scenario in which all happens at the same ticks, with stamps of the same times.
abbrev pub RenumberedRunsAgree : Type 0
RenumberedRunsAgree =
    (renumber back : ℕ → ℕ) (scenario other : Scenario) (run : Schedule)
    → IsScenario scenario → IsScenario other → IsRenumbered renumber back scenario other → IsAssignment other run
    → (schedule : Schedule) × IsAssignment scenario schedule × IsSameRun renumber scenario schedule other run

-- Of two such runs, where no more destinations of a message stand behind a group in the other scenario, the message is no later there.
abbrev pub FewerBehindIsNoLater : Type 0
FewerBehindIsNoLater =
    (renumber back : ℕ → ℕ) (scenario other : Scenario) (schedule run : Schedule) (m g : ℕ)
    → IsScenario scenario → IsScenario other → IsRenumbered renumber back scenario other → IsSameRun renumber scenario schedule other run
    → GoesTo scenario m g → NoMoreAreBehind renumber scenario m g
    → latency_at other run m (renumber g) ≤ latency_at scenario schedule m g

-- The greatest latency of a message at a group grows with the set of the message's other destinations that stand behind the group: where no more of them do, it is no greater.
abbrev pub FewerBehindIsNoSlower : Type 0
FewerBehindIsNoSlower =
    (renumber back : ℕ → ℕ) (scenario other : Scenario) (m g latency : ℕ)
    → IsScenario scenario → IsScenario other → IsRenumbered renumber back scenario other
    → GoesTo scenario m g → NoMoreAreBehind renumber scenario m g
    → IsUpperAt scenario m g latency
    → IsUpperAt other m (renumber g) latency

-- It depends on the order of the groups by that set alone.
abbrev pub SameBehindIsSame : Type 0
SameBehindIsSame =
    (renumber back : ℕ → ℕ) (scenario other : Scenario) (m g latency : ℕ)
    → IsScenario scenario → IsScenario other → IsRenumbered renumber back scenario other
    → GoesTo scenario m g → AreSameBehind renumber scenario m g
    → IsGreatestAt scenario m g latency
    → IsGreatestAt other m (renumber g) latency

-- No order of the groups has a lesser greatest latency of a message at a group than one in which no other destination of the message stands behind the group.
abbrev pub LastListedIsBest : Type 0
LastListedIsBest =
    (renumber back : ℕ → ℕ) (scenario other : Scenario) (m g latency : ℕ)
    → IsScenario scenario → IsScenario other → IsRenumbered renumber back scenario other
    → GoesTo scenario m g → ((h : ℕ) → GoesTo scenario m h → renumber h ≤ renumber g)
    → IsUpperAt scenario m g latency
    → IsUpperAt other m (renumber g) latency

-- The ceiling of a message at a group is the same in each order of the groups, and so is that of the target.
abbrev pub CeilingIsSame : Type 0
CeilingIsSame =
    (renumber back : ℕ → ℕ) (scenario other : Scenario) → IsRenumbered renumber back scenario other
    → ((m g : ℕ) → ceiling_at other m (renumber g) ≡ ceiling_at scenario m g) × (ceiling_of other ≡ ceiling_of scenario)
