-- Boxes of delays: a range for each packet, in packet order.
use Rattle.std.specs.Prelude.{◌≡◌, ℕ, ◌+◌, ◌<◌, ◌≤◌, ◌==◌, nat_le, nat_lt, Bool, ◌&&◌, List, length, All, slice_index_or, slice_set}
use Rattle.std.specs.List.{AllZip, list_all}
use Rattle.convoy_scenario.specs.Scenario.{Scenario}
use Rattle.convoy_packets.specs.Assignment.{Schedule, ranges_of, AreWithin}
pub use Rattle.convoy_packets.specs.Table.{greatest_of}

-- a box, by the range of each packet
abbrev pub Box : Type 0
Box = List (ℕ × ℕ)

-- a range that holds a delay and lies in another range
abbrev pub IsInside : ℕ × ℕ → ℕ × ℕ → Type 0
IsInside outer range = (outer.0 ≤ range.0) × (range.0 ≤ range.1) × (range.1 ≤ outer.1)

-- each range holds a delay
abbrev pub AreRanges : Box → Type 0
AreRanges ranges = All (λ range. range.0 ≤ range.1) ranges

-- a box has a range for each packet of the scenario, inside the packet's range
abbrev pub IsBox : Scenario → Box → Type 0
IsBox scenario ranges = AllZip IsInside (ranges_of scenario) ranges

-- the schedule is a member of the box: each of its delays lies in the packet's range there, whatever the order of ties
abbrev pub IsIn : Box → Schedule → Type 0
IsIn ranges schedule = AreWithin ranges schedule.delays

-- the root box leaves each packet its whole range: every assignment is a member
abbrev pub root_of : Scenario → Box
root_of scenario = ranges_of scenario

-- the range of a packet by its place
abbrev pub range_at : Box → ℕ → ℕ × ℕ
range_at ranges packet = slice_index_or ranges packet (0, 0)

-- a box may be split at a packet after a delay that is in its range and not the last one there
pub record CanSplit (ranges : Box) (packet at : ℕ) : Type 0 where
  pub place : packet < length ranges
  pub low : (range_at ranges packet).0 ≤ at
  pub high : at < (range_at ranges packet).1

-- the test of it
abbrev pub can_split : Box → ℕ → ℕ → Bool
can_split ranges packet at =
    nat_lt packet (length ranges) && nat_le (range_at ranges packet).0 at && nat_lt at (range_at ranges packet).1

-- the lower half of the box, in which the packet takes at most so many ticks, and the upper half, in which it takes more
abbrev pub lower_half : Box → ℕ → ℕ → Box
lower_half ranges packet at = slice_set ranges packet ((range_at ranges packet).0, at)

abbrev pub upper_half : Box → ℕ → ℕ → Box
upper_half ranges packet at = slice_set ranges packet (at + 1, (range_at ranges packet).1)

-- each packet has one delay left
abbrev pub IsPoint : Box → Type 0
IsPoint ranges = All (λ range. range.0 ≡ range.1) ranges

-- the test of it
abbrev pub is_point : Box → Bool
is_point ranges = list_all (λ range. range.0 == range.1) ranges
