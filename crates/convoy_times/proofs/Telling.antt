-- What is told is a decimal number, with no needless zero.
use Rattle.std.proofs.Common.{◌≡◌, ℕ, zero, suc, ◌+◌, ◌*◌, ◌/◌, ◌%◌, ◌^◌, ◌<◌, ◌≤◌, ◌==◌, true, false, List, [], ◌∷◌, ◌++◌, length, get_or, drop, decimal, Some, None, refl, sym, ap, ◌∙◌, arith, inl, inr, append-nil, IsTrue}
use Rattle.std.specs.Char.{is_ascii_digit}
use Rattle.std.specs.List.{position, position_from}
use Rattle.std.specs.Str.{all_ascii_digits}
use Rattle.std.specs.Str.Parse.{digits_value}
use Rattle.std.proofs.Math.Nat.{div-le_self, zero-mul}
use Rattle.std.proofs.Math.Seq.{take-append_seam}
use Rattle.std.proofs.lemmas.Bool.{and_from, and_parts, cases_Bool, eqb-true, le-leb, ne_eqb}
use Rattle.std.proofs.lemmas.Bool.Decides.{nat_tests}
use Rattle.std.proofs.lemmas.Fmt.{decimal_by_steps_wide, decimal_digit, decimal_is_IsNumeral_wide}
use Rattle.std.proofs.lemmas.Iterator.Adapters.{position_from-zero}
use Rattle.std.proofs.lemmas.Nat.{div-add-mod', mod_below}
use Rattle.std.proofs.lemmas.Str.Parse.{IsNumeralModel, numerals_by_value, tells_all_ascii_digits}
use Rattle.convoy_lines.specs.Words.{has_no_leading_zero, is_number}
use Rattle.convoy_draft.specs.declared.duration.TimeUnit.{TimeUnit}
use Rattle.convoy_draft.specs.declared.duration.TheConstants.{LONGEST_DURATION}
use Rattle.convoy_times.specs.declared.decimals.TheConstants.{MOST_DIGITS}
use Rattle.convoy_times.specs.declared.measure.Measure.{Measure}
use Rattle.convoy_times.specs.Measures.{decimal_in, fraction, fraction_digits, told_ticks}
use Rattle.convoy_times.specs.TimeLaws.{are_decimals, is_decimal}
use Rattle.convoy_times.proofs.Fractions.{digits_of_nothing}
use Rattle.convoy_times.proofs.Tens.{next_digit, some_tens, ten_below, tens, tens_of}

-- ---- the whole number

own : IsNumeralModel (λ ds. all_ascii_digits ds ≡ true) (digits_value 10)
own = numerals_by_value (λ ds. all_ascii_digits ds ≡ true) tells_all_ascii_digits

decimal_digits : (n : ℕ) → n < 10 ^ 64 → all_ascii_digits (decimal n) ≡ true
decimal_digits n fits = own.from (decimal n) (decimal_is_IsNumeral_wide n fits).0.1

-- the first digit of a number that is not 0
abbrev Begins : ℕ → List ℕ → Type 0
Begins n ds = (0 < length ds) × (0 < n → 48 < get_or ds 0 0)

begins_more : (n : ℕ) (ds : List ℕ) → 10 ≤ n → Begins (n / 10) ds → Begins n (ds ++ ((48 + n % 10) ∷ []))
begins_more n [] large (some, first) = absurd (omega arith)
begins_more n (d ∷ ds) large (some, first) = (omega arith, λ above. first (omega (arith, large)))

decimal_begins : (n : ℕ) → n < 10 ^ 64 → Begins n (decimal n)
decimal_begins n fits = decimal_by_steps_wide Begins (λ n small. (omega arith, λ above. omega (arith, above))) begins_more n fits

no_leading_zero : (n : ℕ) (ds : List ℕ) → Begins n ds → 0 < n → has_no_leading_zero ds ≡ true
no_leading_zero n [] (some, first) above = absurd (omega arith)
no_leading_zero n (d ∷ ds) (some, first) above = rw (ne_eqb d 48 (λ e. omega (arith, first above, e))) refl

whole_number : (n : ℕ) → n < 10 ^ 64 → is_number (decimal n) ≡ true
whole_number zero fits = rw (decimal_digit 0 (omega arith)) refl
whole_number (suc n) fits = and_from _ _ (decimal_digits (suc n) fits) (no_leading_zero (suc n) (decimal (suc n)) (decimal_begins (suc n) fits) (omega arith))

-- ---- the part after the point

some_tenths : (q w r v : ℕ) → q * w + r ≡ v → r ≡ 0 → (v == 0) ≡ false → 0 < q
some_tenths zero w r v split none more =
    let nothing : v ≡ 0 = sym split ∙ ap (λ x. x + r) (zero-mul w) ∙ omega (arith, none) in
    absurd (grind (arith, nat_tests, nothing, more))
some_tenths (suc q) w r v split none more = omega arith

-- the digits of a part of so many tens, each so many times
part_decimals : (m n v k : ℕ) → v < tens m → m ≤ n → 0 < k → (v == 0) ≡ false → are_decimals (fraction_digits n (tens m * k) (v * k)) ≡ true
part_decimals zero n v k part few times more = absurd (grind (arith, nat_tests, part, more))
part_decimals (suc m) zero v k part few times more = absurd (omega (arith, few))
part_decimals (suc m) (suc n) v k part few times more =
    let w = tens m in
    let q = v / w in
    let r = v % w in
    let some = some_tens m in
    let split : q * w + r ≡ v = div-add-mod' v w in
    let small : q ≤ 9 = ten_below v w some part in
    let digit : is_ascii_digit (48 + q) ≡ true = and_from _ _ (le-leb 48 (48 + q) (omega arith)) (le-leb (48 + q) 57 (omega (arith, small))) in
    let next = next_digit n v w k some times more in
    elim (cases_Bool (r == 0)) [
      | inl none ↦
          let gone : r * (10 * k) ≡ 0 = ap (λ x. x * (10 * k)) (eqb-true r 0 none) ∙ zero-mul (10 * k) in
          let last : (48 + q == 48) ≡ false = ne_eqb (48 + q) 48 (λ e. omega (arith, some_tenths q w r v split (eqb-true r 0 none) more, e)) in
          rw (next, gone, digits_of_nothing n (w * (10 * k)), digit, last) refl
      | inr others ↦
          let rest = part_decimals m n r (10 * k) (mod_below v w some) (omega (arith, few)) (omega (arith, times)) others in
          rw (next, digit, rest) refl
    ]

-- a part of a unit
fraction_decimals : (m rest : ℕ) → m ≤ MOST_DIGITS → rest < tens m → (rest == 0) ≡ false → are_decimals (fraction_digits MOST_DIGITS (tens m) rest) ≡ true
fraction_decimals m rest few part more =
    let one : tens m * 1 ≡ tens m = omega arith in
    let once : rest * 1 ≡ rest = omega arith in
    rw (one, once) at (part_decimals m MOST_DIGITS rest 1 part few (omega arith) more)

-- ---- the two with a point

no_point : (ds : List ℕ) (i : ℕ) → all_ascii_digits ds ≡ true → position_from (λ c. c == 46) i ds ≡ None
no_point [] i all = refl
no_point (c ∷ cs) i all =
    let (here, more) = and_parts (is_ascii_digit c) (all_ascii_digits cs) all in
    let other : (c == 46) ≡ false = grind (arith, nat_tests, here) in
    rw other (no_point cs (i + 1) more)

point_after : (ds rest : List ℕ) (i : ℕ) → all_ascii_digits ds ≡ true → position_from (λ c. c == 46) i (ds ++ 46 ∷ rest) ≡ Some (i + length ds)
point_after [] rest i all = ap Some (omega arith)
point_after (c ∷ cs) rest i all =
    let (here, more) = and_parts (is_ascii_digit c) (all_ascii_digits cs) all in
    let other : (c == 46) ≡ false = grind (arith, nat_tests, here) in
    let further : i + 1 + length cs ≡ i + length (c ∷ cs) = omega arith in
    rw other (point_after cs rest (i + 1) more ∙ ap Some further)

past_point : (ds rest : List ℕ) → drop (length ds + 1) (ds ++ 46 ∷ rest) ≡ rest
past_point [] rest = refl
past_point (c ∷ cs) rest =
    let e : length (c ∷ cs) + 1 ≡ suc (length cs + 1) = omega arith in
    rw e (past_point cs rest)

-- a number alone
whole_is_decimal : (ds : List ℕ) → is_number ds ≡ true → is_decimal ds ≡ true
whole_is_decimal ds number =
    let all = (and_parts (all_ascii_digits ds) (has_no_leading_zero ds) number).0 in
    let none : position (λ c. c == 46) ds ≡ None = position_from-zero (λ c. c == 46) ds ∙ no_point ds 0 all in
    rw none number

-- a number before a point and digits
pointed_is_decimal : (ds parts : List ℕ) → is_number ds ≡ true → are_decimals parts ≡ true → is_decimal (ds ++ 46 ∷ parts) ≡ true
pointed_is_decimal ds parts number digits =
    let all = (and_parts (all_ascii_digits ds) (has_no_leading_zero ds) number).0 in
    let at : position (λ c. c == 46) (ds ++ 46 ∷ parts) ≡ Some (length ds) =
    position_from-zero (λ c. c == 46) (ds ++ 46 ∷ parts) ∙ point_after ds parts 0 all ∙ ap Some (omega arith) in
    rw (at, take-append_seam ds (46 ∷ parts), past_point ds parts, number) digits

-- ---- the whole

decimal_in_unit : (unit : TimeUnit) (nanoseconds : ℕ) → nanoseconds < 10 ^ 64 → is_decimal (decimal_in unit nanoseconds) ≡ true
unfolding fraction
decimal_in_unit unit nanoseconds fits =
    let (m, few, e) = tens_of unit in
    let one = tens m in
    let rest = nanoseconds % one in
    let below : nanoseconds / one < 10 ^ 64 = omega (arith, div-le_self nanoseconds one, fits) in
    let number = whole_number (nanoseconds / one) below in
    elim (cases_Bool (rest == 0)) [
      | inl none ↦ rw (e, none, append-nil (decimal (nanoseconds / one))) (whole_is_decimal (decimal (nanoseconds / one)) number)
      | inr more ↦ rw (e, more) (pointed_is_decimal (decimal (nanoseconds / one)) (fraction_digits MOST_DIGITS one rest) number (fraction_decimals m rest few (mod_below nanoseconds one (some_tens m)) more))
    ]

few_nanoseconds : (ticks tick : ℕ) → ticks < 2 ^ 32 → tick ≤ LONGEST_DURATION → ticks * tick < 10 ^ 64
few_nanoseconds ticks tick fits short = search (arith, fits, short)

pub told_decimal : (measure : Measure) (ticks : ℕ) → ticks < 2 ^ 32 → measure.tick ≤ LONGEST_DURATION → IsTrue (is_decimal (told_ticks measure ticks))
unfolding told_ticks
told_decimal measure ticks fits short = decimal_in_unit measure.unit (ticks * measure.tick) (few_nanoseconds ticks measure.tick fits short)
