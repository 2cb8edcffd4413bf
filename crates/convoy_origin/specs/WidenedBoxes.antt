-- Boxes of the widened scenario.
use Rattle.std.specs.Prelude.{ℕ, ◌+◌, ◌-◌, map}
use Rattle.std.specs.List.{AllZip}
use Rattle.std.specs.Option.{option_map_or}
use Rattle.convoy_scenario.specs.Scenario.{Scenario}
use Rattle.convoy_packets.specs.declared.packet.Packet.{Packet}
use Rattle.convoy_packets.specs.declared.packet.Packet.TheVariants.{Wait, Multicast, Propose}
use Rattle.convoy_packets.specs.Packets.{packets_of, place_of}
use Rattle.convoy_intervals.specs.Boxes.{Box, IsInside, range_at}
use Rattle.convoy_scenario.specs.Widened.{target_wait, widened}

-- the range of a packet in a box; what is no packet takes no time
unfoldable pub range_in : Scenario → Box → Packet → ℕ × ℕ
range_in scenario ranges packet = option_map_or (λ i. range_at ranges i) (place_of packet (packets_of scenario)) (0, 0)

-- the range of the target's wait in a box
abbrev pub target_range : Scenario → Box → ℕ × ℕ
target_range scenario ranges = range_in scenario ranges (Wait scenario.target_message)

-- the range of a packet in the widened box: a message may wait from its least wait before the target's greatest, to its greatest after the target's least
abbrev pub widened_range : Scenario → Box → Packet → ℕ × ℕ
widened_range scenario ranges (Wait m) = (
  ((range_in scenario ranges (Wait m)).0 + target_wait scenario) - (target_range scenario ranges).1,
  ((range_in scenario ranges (Wait m)).1 + target_wait scenario) - (target_range scenario ranges).0,
)
widened_range scenario ranges (Multicast m g) = range_in scenario ranges (Multicast m g)
widened_range scenario ranges (Propose m h g) = range_in scenario ranges (Propose m h g)

-- the box of the widened scenario that holds all members of a box, with their issues moved
unfoldable pub widened_box : Scenario → Box → Box
widened_box scenario ranges = map (widened_range scenario ranges) (packets_of (widened scenario))

-- A box inside another one widens to a box inside the other one's.
abbrev pub InnerBoxesWiden : Type 0
InnerBoxesWiden =
    (scenario : Scenario) (outer inner : Box)
    → AllZip IsInside outer inner
    → AllZip IsInside (widened_box scenario outer) (widened_box scenario inner)
