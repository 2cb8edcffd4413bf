-- What a certificate says, as plain data.
use Rattle.std.specs.Prelude.{◌≡◌, ℕ, ◌≤◌, ◌<◌, ◌^◌, Bool, true, false, List}
use Rattle.std.specs.List.{All}
use Rattle.convoy_draft.specs.declared.time.Time.{Time}
use Rattle.convoy_draft.specs.declared.time.Time.TheVariants.{Ticks, Real}
use Rattle.convoy_draft.specs.declared.limits.TheConstants.{GREATEST_DELAY, GREATEST_WHOLE_DELAY}
use Rattle.convoy_scenario.specs.Scenario.{Scenario, is_timed}
use Rattle.convoy_scenario.specs.WellFormed.{IsScenario}
use Rattle.convoy_packets.specs.Assignment.{IsAssignment, Schedule}
use Rattle.convoy_certificate.specs.declared.node.Node.{Node}
use Rattle.convoy_certificate.specs.declared.node.Node.TheVariants.{Split, Order, Bound, Point, Stamp, Lead}
use Rattle.convoy_certificate.specs.declared.node.TheConstants.{GREATEST_MOMENT, GREATEST_PACKET, GREATEST_UNTIMED_PACKET}

-- a scenario, a latency, a schedule, and nodes in their order
pub record Certificate : Type 0 where
  pub scenario : Scenario
  pub latency : ℕ
  pub schedule : Schedule
  pub nodes : List Node

-- the greatest number of a packet that a split names, where the text says how time goes, and else
abbrev pub greatest_packet : Bool → ℕ
greatest_packet true = GREATEST_PACKET
greatest_packet false = GREATEST_UNTIMED_PACKET

-- the least number of ticks after which a split cuts, there and else: a wait may be cut after 0
abbrev pub least_place : Bool → ℕ
least_place true = 0
least_place false = 1

-- the greatest number of ticks after which a split cuts, there and else
abbrev pub greatest_place : Bool → ℕ
greatest_place true = GREATEST_DELAY
greatest_place false = GREATEST_WHOLE_DELAY

-- a node where the text says how time goes, or not, and time goes so: a split names a packet, and cuts, within the limits; a split by order is of real time alone, and its numbers of moments ascend; a stamp leaf is of whole ticks alone; a latency has 32 bits
abbrev pub IsNodeWhere : Bool → Time → Node → Type 0
IsNodeWhere timed time (Split packet at) = (packet ≤ greatest_packet timed) × (least_place timed ≤ at) × (at ≤ greatest_place timed)
IsNodeWhere timed time (Order first second) = (time ≡ Real) × (first < second) × (second ≤ GREATEST_MOMENT)
IsNodeWhere timed time Bound = Unit {0}
IsNodeWhere timed time Point = Unit {0}
IsNodeWhere timed time Stamp = time ≡ Ticks
IsNodeWhere timed time (Lead latency) = latency < 2 ^ 32

-- a node of a certificate of the scenario
abbrev pub IsNode : Scenario → Node → Type 0
IsNode scenario node = IsNodeWhere (is_timed scenario) scenario.time node

-- what holds of each certificate
pub record IsCertificate (certificate : Certificate) : Type 0 where
  pub scenario : IsScenario certificate.scenario
  pub latency : certificate.latency < 2 ^ 32
  pub assigned : IsAssignment certificate.scenario certificate.schedule
  pub nodes : All (IsNode certificate.scenario) certificate.nodes
