-- The ceiling: a number that no latency exceeds, whatever traffic of a scenario's kinds of messages there is.
use Rattle.std.specs.Prelude.{◌≡◌, ℕ, ◌+◌, ◌-◌, ◌*◌, ◌≤◌, ◌<◌, Bool, ◌&&◌, not, length, map, All, IsFalse, IsTrue, if◌then◌else◌}
use Rattle.convoy_scenario.specs.declared.sender.Sender.{Sender}
use Rattle.convoy_scenario.specs.declared.sender.Sender.TheVariants.{Group}
use Rattle.convoy_scenario.specs.Scenario.{HaveSameHomes, Message, Scenario, GoesTo, message_at, range_between, stamp_takes_time, takes_time}
use Rattle.convoy_scenario.specs.WellFormed.{IsScenario}
use Rattle.convoy_packets.specs.declared.packet.Packet.{Packet}
use Rattle.convoy_packets.specs.Packets.{is_wait}
use Rattle.convoy_packets.specs.Assignment.{Schedule, AreWithin, range_of, ranges_of, receiver_of, sender_of}
use Rattle.convoy_packets.specs.ScheduleLaws.{is_sent}
use Rattle.convoy_sim.specs.Times.{greatest}
use Rattle.convoy_sim.specs.Delivery.{addressed_to, latency_at}
use Rattle.convoy_sim.specs.Greatest.{IsUpper}
use Rattle.convoy_sim.specs.Traffic.{IsTraffic}

-- the least and the greatest delay of a message from a sender to a group; what a group sends to itself takes no time without a link
abbrev pub delays_between : Scenario → Sender → ℕ → ℕ × ℕ
delays_between scenario sender to = if takes_time scenario sender to then range_between scenario sender to else (0, 0)

-- the least and the greatest delay of a stamp from a group to another one; its own takes no time without a link of the group to itself that is for stamps
abbrev pub stamp_delays : Scenario → ℕ → ℕ → ℕ × ℕ
stamp_delays scenario from to = if stamp_takes_time scenario from to then range_between scenario (Group from) to else (0, 0)

-- the longest way from a sender to group h, and on to group g
abbrev pub longest_by : Scenario → Sender → ℕ → ℕ → ℕ
longest_by scenario sender g h = (delays_between scenario sender h).1 + (stamp_delays scenario h g).1

-- the longest from the issue of message m to its commit at group g: the longest way by one of its destinations
abbrev pub longest_to_commit : Scenario → ℕ → ℕ → ℕ
longest_to_commit scenario m g = greatest (map (longest_by scenario (message_at scenario m).sender g) (message_at scenario m).destinations)

-- the longest from the arrival of message m at group g to its commit there
abbrev pub longest_from_arrival : Scenario → ℕ → ℕ → ℕ
longest_from_arrival scenario g m = longest_to_commit scenario m g - (delays_between scenario (message_at scenario m).sender g).0

-- the longest from the arrival of any message at group g to its commit there
abbrev pub longest_after : Scenario → ℕ → ℕ
longest_after scenario g = greatest (map (longest_from_arrival scenario g) (addressed_to scenario g))

-- the ceiling of message m at group g: the longest to its commit there, and then to that of a message which has arrived there by then
unfoldable pub ceiling_at : Scenario → ℕ → ℕ → ℕ
ceiling_at scenario m g = longest_to_commit scenario m g + longest_after scenario g

-- the ceiling of a scenario, that of its target
unfoldable pub ceiling_of : Scenario → ℕ
ceiling_of scenario = ceiling_at scenario scenario.target_message scenario.target_group

-- a message is of the kind of another: it has the same sender and the same destinations
pub record IsOfKind (kind message : Message) : Type 0 where
  pub sender : message.sender ≡ kind.sender
  pub destinations : message.destinations ≡ kind.destinations

-- a message of the traffic is of the kind of some message of the scenario
abbrev pub IsOfSomeKind : Scenario → Message → Type 0
IsOfSomeKind scenario message = (n : ℕ) × (n < length scenario.multicasts) × IsOfKind (message_at scenario n) message

-- traffic of a scenario's kinds of messages: as many groups, the same D and the same links, and messages of any number, issued at any ticks and after any waits, each of the kind of some message of the scenario
pub record IsTrafficOf (scenario traffic : Scenario) : Type 0 where
  pub groups : length traffic.groups ≡ length scenario.groups
  pub delay : traffic.delay ≡ scenario.delay
  pub links : traffic.links ≡ scenario.links
  pub kinds : All (IsOfSomeKind scenario) traffic.multicasts

-- the traffic has the packet, and it travels: it is no wait
abbrev pub travels : Scenario → Packet → Bool
travels traffic packet = is_sent traffic packet && not (is_wait packet)

-- the range that the scenario's links give a packet of traffic that travels
abbrev pub range_by : Scenario → Scenario → Packet → ℕ × ℕ
range_by scenario traffic packet = range_between scenario (sender_of traffic packet) (receiver_of packet)

-- traffic of a scenario's kinds of messages in ticks so many times as fine: the same groups have links to themselves, the range of each packet that travels lies within so many times the one that the scenario's links give it, and messages wait for any time
pub record IsFinerTrafficOf (times : ℕ) (scenario traffic : Scenario) : Type 0 where
  pub groups : length traffic.groups ≡ length scenario.groups
  pub homes : HaveSameHomes scenario traffic
  pub kinds : All (IsOfSomeKind scenario) traffic.multicasts
  pub least : (packet : Packet) → IsTrue (travels traffic packet) → times * (range_by scenario traffic packet).0 ≤ (range_of traffic packet).0
  pub most : (packet : Packet) → IsTrue (travels traffic packet) → (range_of traffic packet).1 ≤ times * (range_by scenario traffic packet).1

-- in no traffic of the scenario's kinds of messages has a message of the kind of n a greater latency at group g, whatever the delays are in their ranges, however long messages wait for their issue, and in whatever order ties fall
abbrev pub IsUpperInTraffic : Scenario → ℕ → ℕ → ℕ → Type 0
IsUpperInTraffic scenario n g latency =
    (traffic : Scenario) (schedule : Schedule) → IsTrafficOf scenario traffic → AreWithin (ranges_of traffic) schedule.delays
    → (m : ℕ) → IsOfKind (message_at scenario n) (message_at traffic m) → GoesTo traffic m g
    → latency_at traffic schedule m g ≤ latency

-- In no traffic of kinds of messages, of any number, each of which goes to one or more of the groups, is a latency above the ceiling: of the limits of a scenario none is needed.
abbrev pub CeilingHoldsForAnyKinds : Type 0
CeilingHoldsForAnyKinds = (kinds : Scenario) → IsTraffic kinds → (n g : ℕ) → IsUpperInTraffic kinds n g (ceiling_at kinds n g)

-- In no traffic of a scenario's kinds of messages is a latency above the ceiling.
abbrev pub CeilingHolds : Type 0
CeilingHolds = (scenario : Scenario) → IsScenario scenario → (n g : ℕ) → IsUpperInTraffic scenario n g (ceiling_at scenario n g)

-- Nor is it in ticks that are a number of times as fine, in which the ceiling is as many times the number: so it holds whatever part of a tick times are.
abbrev pub CeilingHoldsInFinerTicks : Type 0
CeilingHoldsInFinerTicks =
    (times : ℕ) (scenario traffic : Scenario) (schedule : Schedule)
    → IsScenario scenario → IsFinerTrafficOf times scenario traffic → AreWithin (ranges_of traffic) schedule.delays
    → (n m g : ℕ) → IsOfKind (message_at scenario n) (message_at traffic m) → GoesTo traffic m g
    → latency_at traffic schedule m g ≤ times * ceiling_at scenario n g

-- No latency of a scenario is above its ceiling.
abbrev pub CeilingIsUpper : Type 0
CeilingIsUpper = (scenario : Scenario) → IsScenario scenario → IsUpper scenario (ceiling_of scenario)

-- No ceiling is above 4 D.
abbrev pub CeilingWithinFourDelays : Type 0
CeilingWithinFourDelays = (scenario : Scenario) → IsScenario scenario → (m g : ℕ) → ceiling_at scenario m g ≤ 4 * scenario.delay

-- Where each message that goes to a group takes time on its way there, each ceiling at the group is below 4 D.
abbrev pub CeilingBelowFourDelays : Type 0
CeilingBelowFourDelays =
    (scenario : Scenario) → IsScenario scenario → (g : ℕ) → ((n : ℕ) → GoesTo scenario n g → IsTrue (takes_time scenario (message_at scenario n).sender g))
    → (m : ℕ) → ceiling_at scenario m g < 4 * scenario.delay
