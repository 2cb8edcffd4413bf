-- The halves of a box at a packet: what they keep and which members each has.
use Rattle.std.specs.Prelude.{◌≡◌, ℕ, zero, suc, ◌+◌, ◌≤◌, ◌<◌, List, [], ◌∷◌, length}
use Rattle.std.specs.List.{AllZip}
use Rattle.std.proofs.Common.{arith, refl, ap, get_or, set}
use Rattle.convoy_scenario.specs.Scenario.{Scenario}
use Rattle.convoy_packets.specs.Assignment.{AreWithin, in_fixed_order, ranges_of}
use Rattle.convoy_packets.specs.Table.{greatest_delays}
use Rattle.convoy_intervals.specs.Boxes.{IsBox, IsInside, range_at, lower_half, upper_half, greatest_of}

-- a box with a range in another's place, where that range too lies in the outer one
pub AllZip-set_inside : (outer ranges : List (ℕ × ℕ)) (packet : ℕ) (range : ℕ × ℕ) → AllZip IsInside outer ranges → packet < length ranges → range.0 ≤ range.1 → (get_or ranges packet (0, 0)).0 ≤ range.0 → range.1 ≤ (get_or ranges packet (0, 0)).1 → AllZip IsInside outer (set ranges packet range)
AllZip-set_inside [] [] packet range box below holds low high = absurd (omega arith)
AllZip-set_inside [] (r ∷ rs) packet range box below holds low high = absurd box
AllZip-set_inside (o ∷ os) [] packet range box below holds low high = absurd box
AllZip-set_inside (o ∷ os) (r ∷ rs) zero range box below holds low high = ((omega arith, holds, omega arith), box.1)
AllZip-set_inside (o ∷ os) (r ∷ rs) (suc packet) range box below holds low high =
    (box.0, AllZip-set_inside os rs packet range box.1 (omega arith) holds low high)

-- the members of a box with a smaller range in one place: those whose delay there lies in it
pub IsIn-set : (ranges : List (ℕ × ℕ)) (delays : List ℕ) (packet : ℕ) (range : ℕ × ℕ) → packet < length ranges → AreWithin ranges delays → range.0 ≤ get_or delays packet 0 → get_or delays packet 0 ≤ range.1 → AreWithin (set ranges packet range) delays
IsIn-set [] delays packet range below member low high = absurd (omega arith)
IsIn-set (r ∷ rs) [] packet range below member low high = absurd member
IsIn-set (r ∷ rs) (d ∷ ds) zero range below member low high = ((low, high), member.1)
IsIn-set (r ∷ rs) (d ∷ ds) (suc packet) range below member low high =
    (member.0, IsIn-set rs ds packet range (omega arith) member.1 low high)

pub IsIn-from_set : (ranges : List (ℕ × ℕ)) (delays : List ℕ) (packet : ℕ) (range : ℕ × ℕ) → packet < length ranges → (get_or ranges packet (0, 0)).0 ≤ range.0 → range.1 ≤ (get_or ranges packet (0, 0)).1 → AreWithin (set ranges packet range) delays → AreWithin ranges delays × (range.0 ≤ get_or delays packet 0) × (get_or delays packet 0 ≤ range.1)
IsIn-from_set [] delays packet range below low high member = absurd (omega arith)
IsIn-from_set (r ∷ rs) [] zero range below low high member = absurd member
IsIn-from_set (r ∷ rs) [] (suc packet) range below low high member = absurd member
IsIn-from_set (r ∷ rs) (d ∷ ds) zero range below low high member =
    (((omega arith, omega arith), member.1), member.0.0, member.0.1)
IsIn-from_set (r ∷ rs) (d ∷ ds) (suc packet) range below low high member =
    let rest = IsIn-from_set rs ds packet range (omega arith) low high member.1 in
    ((member.0, rest.0), rest.1, rest.2)

-- the delay of a member lies in the range of its place
pub IsIn-place : (ranges : List (ℕ × ℕ)) (delays : List ℕ) (packet : ℕ) → packet < length ranges → AreWithin ranges delays → ((get_or ranges packet (0, 0)).0 ≤ get_or delays packet 0) × (get_or delays packet 0 ≤ (get_or ranges packet (0, 0)).1)
IsIn-place [] delays packet below member = absurd (omega arith)
IsIn-place (r ∷ rs) [] packet below member = absurd member
IsIn-place (r ∷ rs) (d ∷ ds) zero below member = member.0
IsIn-place (r ∷ rs) (d ∷ ds) (suc packet) below member = IsIn-place rs ds packet (omega arith) member.1

-- the halves of a box are boxes
pub IsBox-halves : (plan : Scenario) (ranges : List (ℕ × ℕ)) (packet at : ℕ) → packet < length ranges → (range_at ranges packet).0 ≤ at → at < (range_at ranges packet).1 → IsBox plan ranges → IsBox plan (lower_half ranges packet at) × IsBox plan (upper_half ranges packet at)
IsBox-halves plan ranges packet at place low high box =
    let range = range_at ranges packet in
    let inside = AllZip-set_inside (ranges_of plan) ranges packet in
    (inside (range.0, at) box place low (omega arith) (omega arith), inside (at + 1, range.1) box place (omega arith) (omega arith) (omega arith))

-- and so are what the program makes of two copies of the box
pub IsBox-copies : (plan : Scenario) (ranges low high : List (ℕ × ℕ)) (range : ℕ × ℕ) (packet at : ℕ) → low ≡ ranges → high ≡ ranges → range ≡ range_at ranges packet → packet < length ranges → (range_at ranges packet).0 ≤ at → at < (range_at ranges packet).1 → IsBox plan ranges → IsBox plan (set low packet (range.0, at)) × IsBox plan (set high packet (at + 1, range.1))
IsBox-copies plan ranges low high range packet at lower upper is place below above box =
    rw (lower, upper, is) (IsBox-halves plan ranges packet at place below above box)

-- the upper half keeps each greatest delay
upper_keeps_delays : (ranges : List (ℕ × ℕ)) (packet at : ℕ) → greatest_delays (upper_half ranges packet at) ≡ greatest_delays ranges
upper_keeps_delays [] packet at = refl
upper_keeps_delays (r ∷ rs) zero at = refl
upper_keeps_delays (r ∷ rs) (suc packet) at = ap (λ (ds : List ℕ). r.1 ∷ ds) (upper_keeps_delays rs packet at)

pub upper_keeps_greatest : (ranges : List (ℕ × ℕ)) (packet at : ℕ) → greatest_of (upper_half ranges packet at) ≡ greatest_of ranges
upper_keeps_greatest ranges packet at = ap in_fixed_order (upper_keeps_delays ranges packet at)
