-- What is told is read as what it tells: the digits before the point, and those after it.
use Rattle.std.proofs.Common.{◌≡◌, ℕ, zero, suc, ◌+◌, ◌*◌, ◌-◌, ◌/◌, ◌%◌, ◌^◌, ◌<◌, ◌≤◌, ◌==◌, true, false, not, nat_le, nat_lt, List, [], ◌∷◌, ◌++◌, length, decimal, Some, option_and_then, refl, sym, ap, ◌∙◌, arith, inl, inr}
use Rattle.std.specs.Char.{digit_value, is_ascii_digit}
use Rattle.std.specs.List.{list_all, position, position_from}
use Rattle.std.specs.Str.{all_ascii_digits}
use Rattle.std.proofs.lemmas.Fmt.{decimal_nonempty, digits_decimal, digits_value-decimal}
use Rattle.std.proofs.lemmas.Iterator.Adapters.{position_from-zero}
use Rattle.std.proofs.lemmas.Str.Parse.{IsNumeralModel, numerals_by_value, tells_all_ascii_digits}
use Rattle.std.specs.Str.Parse.{digits_value, digits_value_after}
use Rattle.std.proofs.Math.Nat.{div-le_self, zero-mul}
use Rattle.std.proofs.Math.Seq.{take-append_seam, drop-append_seam}
use Rattle.std.proofs.lemmas.Bool.{and_from, and_parts, cases_Bool, eqb-true, le-leb}
use Rattle.std.proofs.lemmas.Bool.Decides.{nat_tests}
use Rattle.std.proofs.lemmas.List.Folds.{list_all-append}
use Rattle.std.proofs.lemmas.Nat.{div-add-mod', mod_below}
use Rattle.convoy_draft.specs.declared.duration.TimeUnit.{TimeUnit}
use Rattle.convoy_draft.specs.declared.duration.TimeUnit.TheVariants.{Seconds, Milliseconds, Microseconds, Nanoseconds}
use Rattle.convoy_draft.specs.declared.duration.TheConstants.{LONGEST_DURATION}
use Rattle.convoy_draft.specs.Durations.{unit_word, unit_length, unit_named, duration_of, number_in, after_point, digits_after, digits_before, digit_of, is_number_byte}
use Rattle.convoy_times.specs.declared.decimals.TheConstants.{MOST_DIGITS}
use Rattle.convoy_times.specs.declared.measure.Measure.{Measure}
use Rattle.convoy_times.specs.Measures.{decimal_in, fraction, fraction_digits, told_ticks}
use Rattle.convoy_times.proofs.Ascii.{some_length}
use Rattle.convoy_times.proofs.Fractions.{digit_small, digits_of_nothing, left_small}
use Rattle.convoy_times.proofs.Tens.{next_digit, some_tens, ten_below, tens, tens_of}

-- ---- digits after the point

-- a digit that counts so many nanoseconds
digit_read : (worth total d : ℕ) (ds : List ℕ) → 0 < worth → d ≤ 9 → total + d * worth ≤ LONGEST_DURATION
    → digits_after (10 * worth) total ((48 + d) ∷ ds) ≡ digits_after worth (total + d * worth) ds
digit_read worth total d ds some small short =
    let low : nat_le 48 (48 + d) ≡ true = le-leb 48 (48 + d) (omega arith) in
    let high : nat_le (48 + d) 57 ≡ true = le-leb (48 + d) 57 (omega (arith, small)) in
    let value : 48 + d - 48 ≡ d = omega arith in
    let whole : nat_lt (10 * worth) 10 ≡ false = grind (arith, nat_tests, some) in
    let tenth : 10 * worth / 10 ≡ worth = omega arith in
    rw (low, high, value, whole, tenth, le-leb (total + d * worth) LONGEST_DURATION short) refl

-- a part of so many tens of nanoseconds is read as what it is
part_read : (m n v k total : ℕ) → v < tens m → m ≤ n → 0 < k → total + v ≤ LONGEST_DURATION → digits_after (tens m) total (fraction_digits n (tens m * k) (v * k)) ≡ Some (total + v)
part_read zero n v k total part few times short =
    let none : v * k ≡ 0 = ap (λ x. x * k) (omega (arith, part)) ∙ zero-mul k in
    rw (none, digits_of_nothing n (tens zero * k)) (ap Some (omega (arith, part)))
part_read (suc m) zero v k total part few times short = absurd (omega (arith, few))
part_read (suc m) (suc n) v k total part few times short =
    let w = tens m in
    elim (cases_Bool (v == 0)) [
      | inl none ↦
          let gone : v * k ≡ 0 = ap (λ x. x * k) (eqb-true v 0 none) ∙ zero-mul k in
          rw (gone, digits_of_nothing (suc n) (tens (suc m) * k)) (ap Some (omega (arith, eqb-true v 0 none)))
      | inr more ↦
          let some = some_tens m in
          let q = v / w in
          let r = v % w in
          let split : q * w + r ≡ v = div-add-mod' v w in
          let less = mod_below v w some in
          let small : v / w ≤ 9 = ten_below v w some part in
          let whole : total + q * w + r ≡ total + v = omega (arith, split) in
          let within : total + q * w ≤ LONGEST_DURATION = omega (arith, whole, short) in
          let first = digit_read w total q (fraction_digits n (w * (10 * k)) (r * (10 * k))) some small within in
          let others = part_read m n r (10 * k) (total + q * w) less (omega (arith, few)) (omega (arith, times)) (rw whole short) in
          rw (next_digit n v w k some times more) (first ∙ others ∙ ap Some whole)
    ]

after_point_read : (one total whole : ℕ) (ds : List ℕ) → 0 < length ds → digits_after one total ds ≡ Some whole → after_point one total ds ≡ Some whole
after_point_read one total whole [] some e = absurd (omega arith)
after_point_read one total whole (c ∷ cs) some e = e

some_digit : (n one rest : ℕ) → (rest == 0) ≡ false → 0 < length (fraction_digits (suc n) one rest)
unfolding fraction_digits
some_digit n one rest more = rw more (omega arith)

-- a part of a unit
fraction_read : (m rest total : ℕ) → m ≤ MOST_DIGITS → rest < tens m → total + rest ≤ LONGEST_DURATION → digits_before (tens m) total (fraction (tens m) rest) ≡ Some (total + rest)
unfolding fraction
fraction_read m rest total few part short =
    elim (cases_Bool (rest == 0)) [
      | inl none ↦ rw none (ap Some (omega (arith, eqb-true rest 0 none)))
      | inr more ↦
          let one : tens m * 1 ≡ tens m = omega arith in
          let once : rest * 1 ≡ rest = omega arith in
          let read : digits_after (tens m) total (fraction_digits MOST_DIGITS (tens m) rest) ≡ Some (total + rest) =
          rw (one, once) at (part_read m MOST_DIGITS rest 1 total part few (omega arith) short) in
          rw more (after_point_read (tens m) total (total + rest) _ (some_digit 8 (tens m) rest more) read)
    ]

-- ---- digits before it

own : IsNumeralModel (λ ds. all_ascii_digits ds ≡ true) (digits_value 10)
own = numerals_by_value (λ ds. all_ascii_digits ds ≡ true) tells_all_ascii_digits

record IsDigit (c : ℕ) : Type 0 where
  counts : digit_of c ≡ Some (digit_value c)
  no_point : (c == 46) ≡ false
  in_number : is_number_byte c ≡ true

digit : (c : ℕ) → is_ascii_digit c ≡ true → IsDigit c
digit c is =
    let low : nat_le 48 c ≡ true = grind (arith, nat_tests) in
    let high : nat_le c 57 ≡ true = grind (arith, nat_tests) in
    let value : digit_value c ≡ c - 48 = grind (arith, nat_tests, is) in
    record { counts = rw (low, high, value) refl; no_point = grind (arith, nat_tests); in_number = rw (low, high) refl }

grows : (n : ℕ) (ds : List ℕ) → n ≤ digits_value_after 10 n ds
grows n [] = omega arith
grows n (c ∷ cs) = omega (arith, grows (n * 10 + digit_value c) cs)

times_mono : (a b one : ℕ) → a ≤ b → a * one ≤ b * one
times_mono a b one le = search (arith, le)

-- digits that count so many nanoseconds each, before what else there is
digits_read : (one n : ℕ) (ds rest : List ℕ) → all_ascii_digits ds ≡ true → digits_value_after 10 n ds * one ≤ LONGEST_DURATION
    → digits_before one (n * one) (ds ++ rest) ≡ digits_before one (digits_value_after 10 n ds * one) rest
digits_read one n [] rest all short = refl
digits_read one n (c ∷ cs) rest all short =
    let (here, more) = and_parts (is_ascii_digit c) (all_ascii_digits cs) all in
    let next = n * 10 + digit_value c in
    let total : n * one * 10 + digit_value c * one ≡ next * one = grind arith in
    let within : next * one ≤ LONGEST_DURATION = omega (arith, times_mono next (digits_value_after 10 next cs) one (grows next cs), short) in
    rw ((digit c here).no_point, (digit c here).counts, total, le-leb (next * one) LONGEST_DURATION within) (digits_read one next cs rest more short)

-- a number begins with a digit
number_read : (one : ℕ) (ds rest : List ℕ) → 0 < length ds → all_ascii_digits ds ≡ true → number_in one (ds ++ rest) ≡ digits_before one 0 (ds ++ rest)
number_read one [] rest some all = absurd (omega arith)
number_read one (c ∷ cs) rest some all =
    let here = and_parts (is_ascii_digit c) (all_ascii_digits cs) all in
    ap (option_and_then (λ digit. digits_before one 0 (c ∷ (cs ++ rest)))) (digit c here.0).counts

-- so many units and a part of one
units_read : (m n rest : ℕ) → m ≤ MOST_DIGITS → rest < tens m → n < 2 ^ 64 → n * tens m + rest ≤ LONGEST_DURATION
    → number_in (tens m) (decimal n ++ fraction (tens m) rest) ≡ Some (n * tens m + rest)
units_read m n rest few part fits short =
    let one = tens m in
    let ds = decimal n in
    let all = digits_decimal own n fits in
    let value : digits_value 10 ds ≡ n = digits_value-decimal own n fits in
    let none : 0 * one ≡ 0 = zero-mul one in
    let within : digits_value 10 ds * one ≤ LONGEST_DURATION = rw value (omega (arith, short)) in
    let read : digits_before one (0 * one) (ds ++ fraction one rest) ≡ digits_before one (digits_value 10 ds * one) (fraction one rest) =
    digits_read one 0 ds (fraction one rest) all within in
    number_read one ds (fraction one rest) (decimal_nonempty n fits) all
    ∙ ap (λ total. digits_before one total (ds ++ fraction one rest)) (sym none)
    ∙ read
    ∙ ap (λ n. digits_before one (n * one) (fraction one rest)) value
    ∙ fraction_read m rest (n * one) few part short

-- ---- where the number ends

digits_in_number : (ds : List ℕ) → all_ascii_digits ds ≡ true → list_all is_number_byte ds ≡ true
digits_in_number [] all = refl
digits_in_number (c ∷ cs) all =
    let (here, more) = and_parts (is_ascii_digit c) (all_ascii_digits cs) all in
    rw ((digit c here).in_number) (digits_in_number cs more)

parts_in_number : (n one left : ℕ) → left < one → list_all is_number_byte (fraction_digits n one left) ≡ true
unfolding fraction_digits
parts_in_number zero one left part = refl
parts_in_number (suc n) one left part =
    elim (cases_Bool (left == 0)) [
      | inl none ↦ rw none refl
      | inr more ↦
          let d = left * 10 / one in
          let small : d ≤ 9 = digit_small one left part in
          let low : nat_le 48 (48 + d) ≡ true = le-leb 48 (48 + d) (omega arith) in
          let high : nat_le (48 + d) 57 ≡ true = le-leb (48 + d) 57 (omega (arith, small)) in
          rw (more, low, high) (parts_in_number n one (left * 10 % one) (left_small one left part))
    ]

fraction_in_number : (one rest : ℕ) → rest < one → list_all is_number_byte (fraction one rest) ≡ true
unfolding fraction
fraction_in_number one rest part =
    elim (cases_Bool (rest == 0)) [
      | inl none ↦ rw none refl
      | inr more ↦ rw more (parts_in_number MOST_DIGITS one rest part)
    ]

ends_at : (bytes rest : List ℕ) (i : ℕ) → list_all is_number_byte bytes ≡ true → position_from (λ c. not (is_number_byte c)) i (bytes ++ 32 ∷ rest) ≡ Some (i + length bytes)
ends_at [] rest i all = ap Some (omega arith)
ends_at (c ∷ cs) rest i all =
    let (here, more) = and_parts (is_number_byte c) (list_all is_number_byte cs) all in
    let further : i + 1 + length cs ≡ i + length (c ∷ cs) = omega arith in
    rw here (ends_at cs rest (i + 1) more ∙ ap Some further)

-- ---- the whole

unit_read : (unit : TimeUnit) → unit_named (unit_word unit) ≡ Some unit
unit_read Seconds = refl
unit_read Milliseconds = refl
unit_read Microseconds = refl
unit_read Nanoseconds = refl

few_units : (nanoseconds one : ℕ) → nanoseconds ≤ LONGEST_DURATION → nanoseconds / one < 2 ^ 64
few_units nanoseconds one short = omega (arith, div-le_self nanoseconds one, short)

-- what is told in a unit
decimal_read : (unit : TimeUnit) (nanoseconds : ℕ) → nanoseconds ≤ LONGEST_DURATION → number_in (unit_length unit) (decimal_in unit nanoseconds) ≡ Some nanoseconds
decimal_read unit nanoseconds short =
    let (m, few, e) = tens_of unit in
    let one = tens m in
    let some = some_tens m in
    let split : nanoseconds / one * one + nanoseconds % one ≡ nanoseconds = div-add-mod' nanoseconds one in
    let fits : nanoseconds / one < 2 ^ 64 = few_units nanoseconds one short in
    let read = units_read m (nanoseconds / one) (nanoseconds % one) few (mod_below nanoseconds one some) fits (rw split short) in
    rw e (read ∙ ap Some split)

decimal_ends : (unit : TimeUnit) (nanoseconds : ℕ) → nanoseconds ≤ LONGEST_DURATION → list_all is_number_byte (decimal_in unit nanoseconds) ≡ true
decimal_ends unit nanoseconds short =
    let one = unit_length unit in
    let ds = decimal (nanoseconds / one) in
    let digits = digits_in_number ds (digits_decimal own (nanoseconds / one) (few_units nanoseconds one short)) in
    let parts = fraction_in_number one (nanoseconds % one) (mod_below nanoseconds one (some_length unit)) in
    list_all-append is_number_byte ds (fraction one (nanoseconds % one)) ∙ and_from _ _ digits parts

pub read_back : (measure : Measure) (ticks : ℕ) → ticks * measure.tick ≤ LONGEST_DURATION → duration_of (told_ticks measure ticks ++ 32 ∷ unit_word measure.unit) ≡ Some (ticks * measure.tick)
unfolding told_ticks duration_of
read_back measure ticks short =
    let unit = measure.unit in
    let told = decimal_in unit (ticks * measure.tick) in
    let end : position (λ c. not (is_number_byte c)) (told ++ 32 ∷ unit_word unit) ≡ Some (length told) =
    position_from-zero (λ c. not (is_number_byte c)) (told ++ 32 ∷ unit_word unit)
    ∙ ends_at told (unit_word unit) 0 (decimal_ends unit (ticks * measure.tick) short)
    ∙ ap Some (omega arith) in
    rw (end, drop-append_seam told (32 ∷ unit_word unit), take-append_seam told (32 ∷ unit_word unit), unit_read unit) (decimal_read unit (ticks * measure.tick) short)
