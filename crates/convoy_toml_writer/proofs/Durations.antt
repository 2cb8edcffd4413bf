-- A duration in its unit is read as the duration.
use Rattle.std.proofs.Common.{◌≡◌, ℕ, ◌+◌, ◌*◌, ◌-◌, ◌/◌, ◌%◌, ◌^◌, ◌<◌, ◌≤◌, ◌==◌, true, false, not, nat_le, List, [], ◌∷◌, ◌++◌, length, codes, decimal, Some, option_and_then, refl, sym, ap, ◌∙◌, arith, inl, inr}
use Rattle.std.specs.Char.{digit_value, is_ascii_digit}
use Rattle.std.specs.List.{position, position_from}
use Rattle.std.specs.Str.{all_ascii_digits}
use Rattle.std.specs.Str.Parse.{digits_value, digits_value_after}
use Rattle.std.proofs.Math.Seq.{take-append_seam, drop-append_seam}
use Rattle.std.proofs.lemmas.Bool.{and_parts, cases_Bool, le-leb, eqb-true}
use Rattle.std.proofs.lemmas.Bool.Decides.{nat_tests}
use Rattle.std.proofs.lemmas.Iterator.Adapters.{position_from-zero}
use Rattle.std.proofs.lemmas.Fmt.{decimal_nonempty, digits_decimal, digits_value-decimal}
use Rattle.std.proofs.lemmas.Str.Parse.{IsNumeralModel, numerals_by_value, tells_all_ascii_digits}
use Rattle.convoy_draft.specs.declared.duration.TimeUnit.{TimeUnit}
use Rattle.convoy_draft.specs.declared.duration.TimeUnit.TheVariants.{Seconds, Milliseconds, Microseconds, Nanoseconds}
use Rattle.convoy_draft.specs.declared.duration.TheConstants.{LONGEST_DURATION, MOST_UNITS}
use Rattle.convoy_draft.specs.Durations.{count_of, unit_of, unit_word, unit_length, unit_named, duration_of, number_in, digits_before, digit_of, is_number_byte}
use Rattle.convoy_toml_writer.proofs.Plain.{is_plain, are_plain}

-- ---- digits

own : IsNumeralModel (λ ds. all_ascii_digits ds ≡ true) (digits_value 10)
own = numerals_by_value (λ ds. all_ascii_digits ds ≡ true) tells_all_ascii_digits

record IsDigit (c : ℕ) : Type 0 where
  counts : digit_of c ≡ Some (digit_value c)
  no_point : (c == 46) ≡ false
  in_number : is_number_byte c ≡ true
  plain : is_plain c ≡ true

digit : (c : ℕ) → is_ascii_digit c ≡ true → IsDigit c
digit c is =
    let low : nat_le 48 c ≡ true = grind (arith, nat_tests) in
    let high : nat_le c 57 ≡ true = grind (arith, nat_tests) in
    let value : digit_value c ≡ c - 48 = grind (arith, nat_tests, is) in
    record {
      counts = rw (low, high, value) refl;
      no_point = grind (arith, nat_tests);
      in_number = rw (low, high) refl;
      plain = grind (arith, nat_tests);
    }

-- digits are printable
digits_plain : (ds : List ℕ) → all_ascii_digits ds ≡ true → are_plain ds ≡ true
digits_plain [] all = refl
digits_plain (c ∷ cs) all =
    let (here, more) = and_parts (is_ascii_digit c) (all_ascii_digits cs) all in
    rw ((digit c here).plain) (digits_plain cs more)

pub decimal_plain : (n : ℕ) → n < 2 ^ 64 → are_plain (decimal n) ≡ true
decimal_plain n fits = digits_plain (decimal n) (digits_decimal own n fits)

grows : (n : ℕ) (ds : List ℕ) → n ≤ digits_value_after 10 n ds
grows n [] = omega arith
grows n (c ∷ cs) = omega (arith, grows (n * 10 + digit_value c) cs)

times_mono : (a b one : ℕ) → a ≤ b → a * one ≤ b * one
times_mono a b one le = search (arith, le)

-- digits that count so many nanoseconds each
digits_counted : (one n : ℕ) (ds : List ℕ) → all_ascii_digits ds ≡ true → digits_value_after 10 n ds * one ≤ LONGEST_DURATION → digits_before one (n * one) ds ≡ Some (digits_value_after 10 n ds * one)
digits_counted one n [] all small = refl
digits_counted one n (c ∷ cs) all small =
    let (here, more) = and_parts (is_ascii_digit c) (all_ascii_digits cs) all in
    let next = n * 10 + digit_value c in
    let total : n * one * 10 + digit_value c * one ≡ next * one = grind arith in
    let within : next * one ≤ LONGEST_DURATION = omega (arith, times_mono next (digits_value_after 10 next cs) one (grows next cs), small) in
    rw ((digit c here).no_point, (digit c here).counts, total, le-leb (next * one) LONGEST_DURATION within) (digits_counted one next cs more small)

-- a number in front
number_read : (one : ℕ) (ds : List ℕ) → 0 < length ds → all_ascii_digits ds ≡ true → digits_value 10 ds * one ≤ LONGEST_DURATION → number_in one ds ≡ Some (digits_value 10 ds * one)
number_read one [] some all small = absurd (omega arith)
number_read one (c ∷ cs) some all small =
    let here = and_parts (is_ascii_digit c) (all_ascii_digits cs) all in
    let none : 0 * one ≡ 0 = omega arith in
    let read : digits_before one (0 * one) (c ∷ cs) ≡ Some (digits_value 10 (c ∷ cs) * one) = digits_counted one 0 (c ∷ cs) all small in
    let from_none : digits_before one 0 (c ∷ cs) ≡ digits_before one (0 * one) (c ∷ cs) = ap (λ total. digits_before one total (c ∷ cs)) (sym none) in
    let first_digit : number_in one (c ∷ cs) ≡ digits_before one 0 (c ∷ cs) = ap (option_and_then (λ digit. digits_before one 0 (c ∷ cs))) (digit c here.0).counts in
    first_digit ∙ from_none ∙ read

-- where the digits end
ends_at : (ds rest : List ℕ) (i : ℕ) → all_ascii_digits ds ≡ true → position_from (λ c. not (is_number_byte c)) i (ds ++ 32 ∷ rest) ≡ Some (i + length ds)
ends_at [] rest i all = ap Some (omega arith)
ends_at (c ∷ cs) rest i all =
    let (here, more) = and_parts (is_ascii_digit c) (all_ascii_digits cs) all in
    let further : i + 1 + length cs ≡ i + length (c ∷ cs) = omega arith in
    rw ((digit c here).in_number) (ends_at cs rest (i + 1) more ∙ ap Some further)

unit_read : (unit : TimeUnit) → unit_named (unit_word unit) ≡ Some unit
unit_read Seconds = refl
unit_read Milliseconds = refl
unit_read Microseconds = refl
unit_read Nanoseconds = refl

-- ---- durations

-- a duration as it is written
abbrev pub duration_text : ℕ → List ℕ
duration_text duration = decimal (count_of duration) ++ (codes " " ++ unit_word (unit_of duration))

-- a number of a unit
counted : (n : ℕ) (unit : TimeUnit) → n < 2 ^ 64 → n * unit_length unit ≤ LONGEST_DURATION → duration_of (decimal n ++ (codes " " ++ unit_word unit)) ≡ Some (n * unit_length unit)
unfolding duration_of
counted n unit fits small =
    let ds = decimal n in
    let all = digits_decimal own n fits in
    let value = digits_value-decimal own n fits in
    let end : position (λ c. not (is_number_byte c)) (ds ++ 32 ∷ unit_word unit) ≡ Some (length ds) =
    position_from-zero (λ c. not (is_number_byte c)) (ds ++ 32 ∷ unit_word unit) ∙ ends_at ds (unit_word unit) 0 all ∙ ap Some (omega arith) in
    let read = number_read (unit_length unit) ds (decimal_nonempty n fits) all (rw value small) in
    rw (end, drop-append_seam ds (32 ∷ unit_word unit), take-append_seam ds (32 ∷ unit_word unit), unit_read unit) (rw value at read)

exact : (n one : ℕ) → 0 < one → (n % one == 0) ≡ true → n / one * one ≡ n
exact n one some whole = let none : n % one ≡ 0 = eqb-true (n % one) 0 whole in omega (arith, none)

-- a duration is so many of its unit
in_unit : (duration : ℕ) → count_of duration * unit_length (unit_of duration) ≡ duration
in_unit duration =
    elim (cases_Bool (duration % 1000000000 == 0)) [
      | inl seconds ↦ rw seconds (exact duration 1000000000 (omega arith) seconds)
      | inr a ↦ elim (cases_Bool (duration % 1000000 == 0)) [
        | inl milliseconds ↦ rw (a, milliseconds) (exact duration 1000000 (omega arith) milliseconds)
        | inr b ↦ elim (cases_Bool (duration % 1000 == 0)) [
          | inl microseconds ↦ rw (a, b, microseconds) (exact duration 1000 (omega arith) microseconds)
          | inr d ↦ rw (a, b, d) (omega arith)
        ]
      ]
    ]

-- what is written of a duration is read as it
pub duration_read : (duration : ℕ) → duration ≤ LONGEST_DURATION → count_of duration ≤ MOST_UNITS → duration_of (duration_text duration) ≡ Some duration
duration_read duration short few =
    let whole = in_unit duration in
    counted (count_of duration) (unit_of duration) (omega (arith, few)) (rw whole short) ∙ ap Some whole

pub unit_plain : (unit : TimeUnit) → are_plain (codes " " ++ unit_word unit) ≡ true
unit_plain Seconds = refl
unit_plain Milliseconds = refl
unit_plain Microseconds = refl
unit_plain Nanoseconds = refl
