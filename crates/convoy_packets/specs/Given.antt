-- Schedules that are given as lists of numbers.
use Rattle.std.specs.Prelude.{ℕ, ℤ, pos, int_le, nat_abs, ◌+◌, ◌==◌, ◌&&◌, if◌then◌else◌, List, [], ◌∷◌, length, Option, Some, None, Result, Ok, Err}
use Rattle.std.specs.Result.{result_map_both}
use Rattle.convoy_packets.specs.declared.fault.ListFault.{ListFault}
use Rattle.convoy_packets.specs.declared.fault.ListFault.TheVariants.{Length, Range}
use Rattle.convoy_packets.specs.Assignment.{Schedule, in_fixed_order}

-- the number as a delay, where it is in the range
abbrev pub delay_given : ℕ × ℕ → ℤ → Option ℕ
delay_given range z = if int_le (pos range.0) z && int_le z (pos range.1) then Some (nat_abs z) else None

-- a delay, where there is one, before those that follow it; else the fault, whatever follows
abbrev pub put_first : ListFault → Option ℕ → Result (List ℕ) ListFault → Result (List ℕ) ListFault
put_first fault None rest = Err fault
put_first fault (Some delay) rest = result_map_both (λ delays. delay ∷ delays) (λ f. f) rest

-- the numbers as delays, each in the range that stands at its place; else the place of the first that is not, where the first of all has place `i`
abbrev pub delays_given : ℕ → List (ℕ × ℕ) → List ℤ → Result (List ℕ) ListFault
delays_given i [] numbers = Ok []
delays_given i (range ∷ ranges) [] = Ok []
delays_given i (range ∷ ranges) (z ∷ numbers) = put_first (Range i) (delay_given range z) (delays_given (i + 1) ranges numbers)

-- the schedule that a list of numbers is: one for each range, and each in its range
abbrev pub schedule_of : List (ℕ × ℕ) → List ℤ → Result Schedule ListFault
schedule_of ranges numbers =
    if length numbers == length ranges then result_map_both in_fixed_order (λ f. f) (delays_given 0 ranges numbers) else Err Length
