-- Schedules of the widened scenario.
use Rattle.std.specs.Prelude.{◌≡◌, ℕ, ◌+◌, ◌-◌, map}
use Rattle.convoy_scenario.specs.Scenario.{GoesTo, Scenario}
use Rattle.convoy_scenario.specs.Widened.{target_wait, widened}
use Rattle.convoy_packets.specs.declared.packet.Packet.{Packet}
use Rattle.convoy_packets.specs.declared.packet.Packet.TheVariants.{Wait, Multicast, Propose}
use Rattle.convoy_packets.specs.Packets.{packets_of}
use Rattle.convoy_packets.specs.Assignment.{IsAssignment, Schedule, delay_of}
use Rattle.convoy_sim.specs.Delivery.{latency_of}
use Rattle.convoy_sim.specs.Greatest.{IsUpper}

-- the delay of a packet in the widened scenario: a message waits longer by as much as the target waits less than it may
abbrev pub widened_delay : Scenario → Schedule → Packet → ℕ
widened_delay scenario schedule (Wait m) =
    (delay_of scenario schedule (Wait m) + target_wait scenario) - delay_of scenario schedule (Wait scenario.target_message)
widened_delay scenario schedule (Multicast m g) = delay_of scenario schedule (Multicast m g)
widened_delay scenario schedule (Propose m h g) = delay_of scenario schedule (Propose m h g)

-- a schedule as one of the widened scenario: all issues are moved, so that the target is issued at the end of its window
unfoldable pub widened_schedule : Scenario → Schedule → Schedule
widened_schedule scenario schedule =
    record { delays = map (widened_delay scenario schedule) (packets_of (widened scenario)); order = schedule.order }

-- the target goes to its group
abbrev pub HasTarget : Scenario → Type 0
HasTarget scenario = GoesTo scenario scenario.target_message scenario.target_group

-- Each assignment of a scenario is one of the widened scenario, of the same latency.
abbrev pub AssignmentsWiden : Type 0
AssignmentsWiden =
    (scenario : Scenario) (schedule : Schedule)
    → HasTarget scenario
    → IsAssignment scenario schedule
    → IsAssignment (widened scenario) (widened_schedule scenario schedule)
    × (latency_of (widened scenario) (widened_schedule scenario schedule) ≡ latency_of scenario schedule)

-- So no latency of a scenario exceeds what none of the widened scenario does.
abbrev pub UpperOfWidened : Type 0
UpperOfWidened = (scenario : Scenario) (latency : ℕ) → HasTarget scenario → IsUpper (widened scenario) latency → IsUpper scenario latency
