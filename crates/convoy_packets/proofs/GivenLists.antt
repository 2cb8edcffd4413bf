-- Lists of numbers that are given as schedules.
use Rattle.std.proofs.Common.{◌≡◌, ◌↔◌, ◌∙◌, ℕ, ℤ, pos, negsuc, ◌+◌, ◌≤◌, ◌==◌, Bool, true, false, ◌&&◌, nat_le, if◌then◌else◌, List, [], ◌∷◌, length, map, Option, Some, None, Result, Ok, Err, inl, inr, arith, refl, sym, ap}
use Rattle.std.proofs.lemmas.Bool.Decides.{nat_tests}
use Rattle.std.proofs.lemmas.List.{length-map}
use Rattle.convoy_scenario.specs.Memory.{IsUnlessMemory}
use Rattle.convoy_packets.specs.declared.fault.ListFault.{ListFault}
use Rattle.convoy_packets.specs.declared.fault.ListFault.TheVariants.{Length, Memory, Range}
use Rattle.convoy_packets.specs.Assignment.{AreWithin, IsWithin, Schedule, in_fixed_order}
use Rattle.convoy_packets.specs.Order.{Order, no_order}
use Rattle.std.specs.Result.{result_map_both}
use Rattle.convoy_packets.specs.Given.{delay_given, delays_given, put_first, schedule_of}
use Rattle.convoy_packets.proofs.Ranges.{length-within}

between : (low high n d : ℕ) → (if nat_le low n && nat_le n high then Some n else None) ≡ Some d → (low ≤ d) × (d ≤ high)
between low high n d e = grind (arith, nat_tests)

delay_within : (range : ℕ × ℕ) (z : ℤ) (d : ℕ) → delay_given range z ≡ Some d → IsWithin range d
delay_within range (pos n) d e = between range.0 range.1 n d e
delay_within range (negsuc n) d e = cc

put_within : (fault : ListFault) (range : ℕ × ℕ) (ranges : List (ℕ × ℕ)) (o : Option ℕ) (rest : Result (List ℕ) ListFault) (delays : List ℕ) →
    ((d : ℕ) → o ≡ Some d → IsWithin range d) → ((ds : List ℕ) → rest ≡ Ok ds → AreWithin ranges ds) →
    put_first fault o rest ≡ Ok delays → AreWithin (range ∷ ranges) delays
put_within fault range ranges None rest delays first others e = cc
put_within fault range ranges (Some d) (Err f) delays first others e = cc
put_within fault range ranges (Some d) (Ok ds) [] first others e = cc
put_within fault range ranges (Some d) (Ok ds) (y ∷ ys) first others e =
    let head : y ≡ d = cc in
    let tail : ys ≡ ds = cc in
    (rw head (first d refl), rw tail (others ds refl))

within_if_given : (i : ℕ) (ranges : List (ℕ × ℕ)) (numbers : List ℤ) (delays : List ℕ) →
    length numbers ≡ length ranges → delays_given i ranges numbers ≡ Ok delays → AreWithin ranges delays
within_if_given i [] numbers [] l e = tt
within_if_given i [] numbers (y ∷ ys) l e = cc
within_if_given i (range ∷ ranges) [] delays l e = absurd (omega arith)
within_if_given i (range ∷ ranges) (z ∷ numbers) delays l e =
    put_within (Range i) range ranges (delay_given range z) (delays_given (i + 1) ranges numbers) delays (delay_within range z)
    (λ ds. within_if_given (i + 1) ranges numbers ds (omega arith)) e

-- what was given is an assignment of delays in their ranges
pub given_within : (ranges : List (ℕ × ℕ)) (numbers : List ℤ) (delays : List ℕ) → length numbers ≡ length ranges →
    IsUnlessMemory Memory (delays_given 0 ranges numbers) (Ok delays) → AreWithin ranges delays
given_within ranges numbers delays l (inl is) = within_if_given 0 ranges numbers delays l (sym is)
given_within ranges numbers delays l (inr is) = cc

-- the number is the delay that it gives
delay_is : (range : ℕ × ℕ) (z : ℤ) (d : ℕ) → delay_given range z ≡ Some d → z ≡ pos d
delay_is range (pos n) d e = same range.0 range.1 n d e where
  same : (low high n d : ℕ) → (if nat_le low n && nat_le n high then Some n else None) ≡ Some d → pos n ≡ pos d
  same low high n d e = grind (arith, nat_tests)
delay_is range (negsuc n) d e = cc

put_is : (fault : ListFault) (z : ℤ) (numbers : List ℤ) (o : Option ℕ) (rest : Result (List ℕ) ListFault) (delays : List ℕ) →
    ((d : ℕ) → o ≡ Some d → z ≡ pos d) → ((ds : List ℕ) → rest ≡ Ok ds → numbers ≡ map pos ds) →
    put_first fault o rest ≡ Ok delays → z ∷ numbers ≡ map pos delays
put_is fault z numbers None rest delays first others e = cc
put_is fault z numbers (Some d) (Err f) delays first others e = cc
put_is fault z numbers (Some d) (Ok ds) delays first others e =
    let all : d ∷ ds ≡ delays = cc in
    rw (← all, first d refl, others ds refl) refl

numbers_if_given : (i : ℕ) (ranges : List (ℕ × ℕ)) (numbers : List ℤ) (delays : List ℕ) →
    length numbers ≡ length ranges → delays_given i ranges numbers ≡ Ok delays → numbers ≡ map pos delays
numbers_if_given i [] [] delays l e = let none : [] ≡ delays = cc in rw (← none) refl
numbers_if_given i [] (z ∷ numbers) delays l e = absurd (omega arith)
numbers_if_given i (range ∷ ranges) [] delays l e = absurd (omega arith)
numbers_if_given i (range ∷ ranges) (z ∷ numbers) delays l e =
    put_is (Range i) z numbers (delay_given range z) (delays_given (i + 1) ranges numbers) delays (delay_is range z)
    (λ ds. numbers_if_given (i + 1) ranges numbers ds (omega arith)) e

given_if_within : (range : ℕ × ℕ) (d : ℕ) → IsWithin range d → delay_given range (pos d) ≡ Some d
given_if_within range d h = from range.0 range.1 d h.0 h.1 where
  from : (low high d : ℕ) → low ≤ d → d ≤ high → (if nat_le low d && nat_le d high then Some d else None) ≡ Some d
  from low high d l h = grind (arith, nat_tests)

delays_if_within : (i : ℕ) (ranges : List (ℕ × ℕ)) (delays : List ℕ) → AreWithin ranges delays → delays_given i ranges (map pos delays) ≡ Ok delays
delays_if_within i [] [] h = refl
delays_if_within i [] (d ∷ delays) h = absurd h
delays_if_within i (range ∷ ranges) [] h = absurd h
delays_if_within i (range ∷ ranges) (d ∷ delays) h = rw (given_if_within range d h.0, delays_if_within (i + 1) ranges delays h.1) refl

module _ (ranges : List (ℕ × ℕ)) where
  schedule_if_within : (delays : List ℕ) → AreWithin ranges delays → schedule_of ranges (map pos delays) ≡ Ok (in_fixed_order delays)
  schedule_if_within delays h =
      let long : length (map pos delays) ≡ length ranges = length-map delays pos ∙ sym (length-within ranges delays h) in
      let same : (length (map pos delays) == length ranges) ≡ true = grind (arith, nat_tests) in
      rw (same, delays_if_within 0 ranges delays h) refl

  in_order : (r : Result (List ℕ) ListFault) (schedule : Schedule) → result_map_both in_fixed_order (λ f. f) r ≡ Ok schedule
      → (r ≡ Ok schedule.delays) × (schedule.order ≡ no_order)
  in_order (Err f) schedule e = cc
  in_order (Ok delays) schedule e =
      let same : in_fixed_order delays ≡ schedule = cc in
      (ap (λ (s : Schedule). Ok s.delays) same, ap (λ (s : Schedule). s.order) (sym same))

  pub given_just_if_delays : (numbers : List ℤ) (schedule : Schedule) →
      (schedule_of ranges numbers ≡ Ok schedule)
      ↔ ((numbers ≡ map pos schedule.delays) × AreWithin ranges schedule.delays × (schedule.order ≡ no_order))
  given_just_if_delays numbers schedule = (there, back) where
    long_enough : (b : Bool) → (length numbers == length ranges) ≡ b → schedule_of ranges numbers ≡ Ok schedule
        → (numbers ≡ map pos schedule.delays) × AreWithin ranges schedule.delays × (schedule.order ≡ no_order)
    long_enough false is e = let no : Err Length ≡ Ok schedule = rw is at e in cc
    long_enough true is e =
        let long : length numbers ≡ length ranges = grind (arith, nat_tests) in
        let given = in_order (delays_given 0 ranges numbers) schedule (rw is at e) in
        (numbers_if_given 0 ranges numbers schedule.delays long given.0, within_if_given 0 ranges numbers schedule.delays long given.0, given.1)

    there : schedule_of ranges numbers ≡ Ok schedule → (numbers ≡ map pos schedule.delays) × AreWithin ranges schedule.delays × (schedule.order ≡ no_order)
    there e = long_enough (length numbers == length ranges) refl e

    back : (numbers ≡ map pos schedule.delays) × AreWithin ranges schedule.delays × (schedule.order ≡ no_order) → schedule_of ranges numbers ≡ Ok schedule
    back h =
        rw h.0
        (schedule_if_within schedule.delays h.1 ∙ ap (λ (o : Order). Ok (record { delays = schedule.delays; order = o })) (sym h.2))
