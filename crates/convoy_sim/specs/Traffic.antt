-- Messages of any number, issued at any ticks: of the limits of a scenario only what delivery rests on.
use Rattle.std.specs.Prelude.{ℕ, ◌<◌, ◌≤◌, ◌∷◌, length, All}
use Rattle.std.specs.List.Sorted.{IsStrictlyIncreasing}
use Rattle.convoy_scenario.specs.Scenario.{Message, Scenario, GoesTo}
use Rattle.convoy_packets.specs.Assignment.{Schedule}
use Rattle.convoy_sim.specs.Delivery.{last_commit, deliver}
use Rattle.convoy_sim.specs.ProtocolLaws.{arrive_by}

-- a message that goes to one or more of so many groups, each named once, in the order of their numbers
pub record GoesToGroups (groups : ℕ) (message : Message) : Type 0 where
  pub destinations : 0 < length message.destinations
  pub ascending : IsStrictlyIncreasing message.destinations
  pub known : All (λ g. g < groups) message.destinations

-- messages of any number, issued at any ticks, each of which goes to one or more of the groups
abbrev pub IsTraffic : Scenario → Type 0
IsTraffic scenario = All (GoesToGroups (length scenario.groups)) scenario.multicasts

-- In traffic of any number of messages, with any delays and any order of ties, what holds a message back at a group has arrived there by the time that the message is committed.
abbrev pub TrafficDeliveryBound : Type 0
TrafficDeliveryBound =
    (scenario : Scenario) (schedule : Schedule) → IsTraffic scenario → (m g : ℕ) → GoesTo scenario m g
    → deliver scenario schedule m g ≤ last_commit scenario schedule g (m ∷ arrive_by scenario schedule m g)
