-- What is proved of rooms. Each is the one clause of the function of its name in the crate's module `budget_laws`.
use Rattle.std.specs.Prelude.{◌≡◌, ℕ, ◌+◌, ◌≤◌, ◌<◌, false, ⊤, Ok}
use Rattle.convoy_scenario.specs.Scenario.{Scenario}
use Rattle.convoy_branch.specs.Options.{Settings}
use Rattle.convoy_budget.specs.declared.kinds.Room.{Room}
use Rattle.convoy_budget.specs.declared.kinds.Room.TheVariants.{Any, Until, AtLeast, Never, Unknown, OutOfMemory}
use Rattle.convoy_budget.specs.declared.kinds.Test.{Test}
use Rattle.convoy_budget.specs.declared.kinds.Widening.{Widening}
use Rattle.convoy_budget.specs.Judging.{IsBeyond, IsRoom, Keeps}
use Rattle.convoy_budget.specs.Ranges.{widened, widest}

-- each scenario that a range of that breadth makes keeps the deadline
abbrev pub KeepsAt : ℕ → Scenario → Widening → ℕ → Type 0
KeepsAt deadline scenario widening breadth = (instance : Scenario) → widened scenario widening breadth ≡ Ok instance → Keeps deadline instance

-- some schedule of each scenario that it makes is beyond the deadline
abbrev pub IsBeyondAt : ℕ → Scenario → Widening → ℕ → Type 0
IsBeyondAt deadline scenario widening breadth = (instance : Scenario) → widened scenario widening breadth ≡ Ok instance → IsBeyond deadline instance

-- no scenario that it makes keeps the deadline
abbrev pub MissesAt : ℕ → Scenario → Widening → ℕ → Type 0
MissesAt deadline scenario widening breadth = (instance : Scenario) → widened scenario widening breadth ≡ Ok instance → Keeps deadline instance → ⊥

-- what a room tells: of which breadth the deadline is kept, and that some schedule is beyond it with one tick more
abbrev pub RoomTells : ℕ → Scenario → Widening → Room → Type 0
RoomTells deadline scenario widening Any = KeepsAt deadline scenario widening (widest scenario widening)
RoomTells deadline scenario widening (Until breadth) = KeepsAt deadline scenario widening breadth × IsBeyondAt deadline scenario widening (breadth + 1)
RoomTells deadline scenario widening (AtLeast breadth) = KeepsAt deadline scenario widening breadth
RoomTells deadline scenario widening Never = IsBeyondAt deadline scenario widening 0
RoomTells deadline scenario widening Unknown = ⊤
RoomTells deadline scenario widening OutOfMemory = ⊤

-- what it says of all breadths: with each that is no greater than one with which the deadline is kept it is kept, and with each that is greater than all these it is not
abbrev pub RoomHolds : ℕ → Scenario → Widening → Room → ℕ → Type 0
RoomHolds deadline scenario widening Any breadth = breadth ≤ widest scenario widening → KeepsAt deadline scenario widening breadth
RoomHolds deadline scenario widening (Until most) breadth =
    (breadth ≤ most → KeepsAt deadline scenario widening breadth) × (most < breadth → MissesAt deadline scenario widening breadth)
RoomHolds deadline scenario widening (AtLeast most) breadth = breadth ≤ most → KeepsAt deadline scenario widening breadth
RoomHolds deadline scenario widening Never breadth = MissesAt deadline scenario widening breadth
RoomHolds deadline scenario widening Unknown breadth = ⊤
RoomHolds deadline scenario widening OutOfMemory breadth = ⊤

-- Rooms by searches for greatest latencies tell this of their breadths.
abbrev pub RoomsTell : Type 0
RoomsTell =
    (settings : Settings) (test : Test) (scenario : Scenario) (widening : Widening) (room : Room) →
    test.of_ceiling ≡ false → IsRoom settings test scenario widening room → RoomTells test.deadline scenario widening room

-- They hold of each breadth: a wider range never lowers the greatest latency.
abbrev pub RoomsHold : Type 0
RoomsHold =
    (settings : Settings) (test : Test) (scenario : Scenario) (widening : Widening) (room : Room) (breadth : ℕ) →
    test.of_ceiling ≡ false → IsRoom settings test scenario widening room → RoomHolds test.deadline scenario widening room breadth
