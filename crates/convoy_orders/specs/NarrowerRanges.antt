-- One scenario with two choices of D and of links, of which one gives no wider ranges than the other.
use Rattle.std.specs.Prelude.{◌≡◌, ℕ, ◌≤◌, List}
use Rattle.convoy_scenario.specs.declared.sender.Sender.{Sender}
use Rattle.convoy_scenario.specs.Scenario.{HaveSameHomes, Link, Scenario, range_between}
use Rattle.convoy_packets.specs.Assignment.{Schedule, IsAssignment}
use Rattle.convoy_sim.specs.Delivery.{latency_at}
use Rattle.convoy_orders.specs.GreatestAt.{IsUpperAt}

-- the scenario with another D and other links
abbrev pub with_links : ℕ → List Link → Scenario → Scenario
with_links delay links scenario = record scenario { delay = delay; links = links }

-- the one range lies within the other
abbrev pub IsWithinRange : ℕ × ℕ → ℕ × ℕ → Type 0
IsWithinRange range wide = (wide.0 ≤ range.0) × (range.1 ≤ wide.1)

-- with that D and those links, the same groups have links to themselves as in the scenario, and no delay is possible between any two places that is not so there
pub record AreNarrowerRanges (delay : ℕ) (links : List Link) (scenario : Scenario) : Type 0 where
  pub homes : HaveSameHomes scenario (with_links delay links scenario)
  pub ranges : (sender : Sender) (to : ℕ) → IsWithinRange (range_between (with_links delay links scenario) sender to) (range_between scenario sender to)

-- Each run with narrower ranges is one with the wider ranges, in which every message takes as long to every group.
abbrev pub NarrowerRunsAreRuns : Type 0
NarrowerRunsAreRuns =
    (scenario : Scenario) (delay : ℕ) (links : List Link) (schedule : Schedule)
    → AreNarrowerRanges delay links scenario → IsAssignment (with_links delay links scenario) schedule
    → IsAssignment scenario schedule × ((m g : ℕ) → latency_at (with_links delay links scenario) schedule m g ≡ latency_at scenario schedule m g)

-- Narrower ranges are no slower: a latency that a message never exceeds at a group is not exceeded with them. So wider ranges never lower the greatest latency.
abbrev pub NarrowerIsNoSlower : Type 0
NarrowerIsNoSlower =
    (scenario : Scenario) (delay : ℕ) (links : List Link) (m g latency : ℕ)
    → AreNarrowerRanges delay links scenario
    → IsUpperAt scenario m g latency
    → IsUpperAt (with_links delay links scenario) m g latency
