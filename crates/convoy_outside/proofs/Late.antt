-- A run that is late leaves the range of some packet.
use Rattle.std.proofs.Common.{◌≡◌, ℕ, ◌+◌, nat_lt, nat_le, Bool, true, false, not, ◌&&◌, List, [], ◌∷◌, length, map, drop, get_or, slice_index, inl, inr, refl, arith, sum_by, leb-true, ltb-true}
use Rattle.std.specs.List.{enumerate_from, list_any}
use Rattle.std.proofs.lemmas.Bool.{and_parts, cases_Bool, or_parts}
use Rattle.std.proofs.lemmas.List.{drop_all, drop_more}
use Rattle.std.proofs.lemmas.List.Elements.{All-weaker}
use Rattle.std.proofs.lemmas.List.Sums.{sum_by-cons}
use Rattle.convoy_scenario.specs.Scenario.{Scenario}
use Rattle.convoy_packets.specs.declared.packet.Packet.{Packet}
use Rattle.convoy_packets.specs.Assignment.{AreWithin, IsWithin, Schedule, range_of, ranges_of}
use Rattle.convoy_packets.specs.Packets.{packets_of}
use Rattle.convoy_sim.specs.Delivery.{latency_of}
use Rattle.convoy_sim.specs.Greatest.{IsUpper}
use Rattle.convoy_outside.specs.Sums.{outside_of, share_of}
use Rattle.convoy_outside.specs.OutsideLaws.{IsRun, IsShareOf, LateRunsAreFew, SharesAddUp, is_outside}
use Rattle.convoy_outside.proofs.Unions.{any_of, at_most_all, fewer}

holds : (b : Bool) → not b ≡ false → b ≡ true
holds true e = refl
holds false e = absurd cc

inside : (range : ℕ × ℕ) (delay : ℕ) → is_outside range delay ≡ false → IsWithin range delay
inside range delay e =
    let both = and_parts (nat_le range.0 delay) (nat_le delay range.1) (holds (nat_le range.0 delay && nat_le delay range.1) e) in
    (leb-true range.0 delay both.0, leb-true delay range.1 both.1)

-- the packet at a place leaves its range
abbrev leaves : (Packet → ℕ × ℕ) → List ℕ → ℕ × Packet → Bool
leaves range delays placed = is_outside (range placed.1) (slice_index delays placed.0)

-- where none does, from some place on, all delays from there on are in their ranges
all_within : (range : Packet → ℕ × ℕ) (packets : List Packet) (n : ℕ) (delays : List ℕ) → n + length packets ≡ length delays
    → list_any (leaves range delays) (enumerate_from n packets) ≡ false → AreWithin (map range packets) (drop n delays)
all_within range [] n delays many e =
    let none : drop n delays ≡ [] = drop_all n delays (omega arith) in
    rw none tt
all_within range (packet ∷ packets) n delays many e =
    let parts = or_parts (leaves range delays (n, packet)) (list_any (leaves range delays) (enumerate_from (n + 1) packets)) e in
    let rest = all_within range packets (n + 1) delays (omega (arith, many)) parts.1 in
    let next : drop n delays ≡ get_or delays n 0 ∷ drop (n + 1) delays = drop_more delays n 0 (omega (arith, many)) in
    rw next (inside (range packet) (get_or delays n 0) parts.0, rest)

numbered_sum : (f : Packet → ℕ) (n : ℕ) (packets : List Packet) → sum_by (λ placed. f placed.1) (enumerate_from n packets) ≡ sum_by f packets
numbered_sum f n [] = refl
numbered_sum f n (packet ∷ packets) =
    omega (arith, sum_by-cons (λ (placed : ℕ × Packet). f placed.1) (n, packet) (enumerate_from (n + 1) packets), sum_by-cons f packet packets, numbered_sum f (n + 1) packets)

module _ (scenario : Scenario) (upper : ℕ) (is : IsUpper scenario upper) where
  late_leaves : (run : Schedule) → IsRun scenario run → nat_lt upper (latency_of scenario run) ≡ true
      → list_any (leaves (range_of scenario) run.delays) (enumerate_from 0 (packets_of scenario)) ≡ true
  unfolding ranges_of
  late_leaves run well late = elim (cases_Bool (list_any (leaves (range_of scenario) run.delays) (enumerate_from 0 (packets_of scenario)))) [
    | inl some ↦ some
    | inr none ↦
        let within = all_within (range_of scenario) (packets_of scenario) 0 run.delays (omega (arith, well.delays)) none in
        let no_later = is run (record { delays = within; order = well.order }) in
        absurd (omega (arith, no_later, ltb-true upper (latency_of scenario run) late))
  ]

pub late_are_few : LateRunsAreFew
unfolding outside_of
late_are_few shares scenario upper runs is are =
    let test : Schedule → ℕ × Packet → Bool = λ run. leaves (range_of scenario) run.delays in
    let packets = packets_of scenario in
    let some : Schedule → Bool = λ run. list_any (test run) (enumerate_from 0 packets) in
    let together = any_of (λ (placed : ℕ × Packet). share_of shares scenario placed.1) test (enumerate_from 0 packets) runs are.kept in
    let summed : IsShareOf (sum_by (share_of shares scenario) packets) some runs = rw (numbered_sum (share_of shares scenario) 0 packets) at together in
    let few = at_most_all (sum_by (share_of shares scenario) packets) some runs summed in
    let late = fewer (λ run. nat_lt upper (latency_of scenario run)) some runs
    (All-weaker (IsRun scenario) (λ run. nat_lt upper (latency_of scenario run) ≡ true → some run ≡ true) (late_leaves scenario upper is) runs are.all) in
    omega (arith, few, late)

pub shares_add : SharesAddUp
unfolding outside_of
shares_add shares scenario runs kept =
    at_most_all (sum_by (share_of shares scenario) (packets_of scenario)) (λ leaves. list_any leaves (packets_of scenario)) runs
    (any_of (share_of shares scenario) (λ leaves packet. leaves packet) (packets_of scenario) runs kept)
