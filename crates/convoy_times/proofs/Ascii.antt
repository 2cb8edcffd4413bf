-- What is told is text: all its bytes are ASCII.
use Rattle.std.proofs.Common.{ℕ, zero, suc, ◌+◌, ◌*◌, ◌/◌, ◌%◌, ◌^◌, ◌<◌, ◌==◌, decimal, inl, inr, arith}
use Rattle.std.specs.Str.{IsAscii, IsUtf8}
use Rattle.std.proofs.lemmas.Bool.{cases_Bool}
use Rattle.std.proofs.lemmas.Fmt.{IsAscii-decimal_wide}
use Rattle.std.proofs.lemmas.Nat.{mod_below}
use Rattle.std.proofs.lemmas.Str.{IsAscii-append, IsUtf8-from_ascii}
use Rattle.std.proofs.lemmas.Str.Ascii.{IsAscii-cons, IsAscii-nil}
use Rattle.convoy_draft.specs.declared.duration.TimeUnit.{TimeUnit}
use Rattle.convoy_draft.specs.declared.duration.TimeUnit.TheVariants.{Seconds, Milliseconds, Microseconds, Nanoseconds}
use Rattle.convoy_draft.specs.Durations.{unit_length}
use Rattle.convoy_times.specs.declared.decimals.TheConstants.{MOST_DIGITS}
use Rattle.convoy_times.specs.Measures.{decimal_in, fraction, fraction_digits}
use Rattle.convoy_times.proofs.Fractions.{digit_small, left_small}

pub some_length : (unit : TimeUnit) → 0 < unit_length unit
some_length Seconds = omega arith
some_length Milliseconds = omega arith
some_length Microseconds = omega arith
some_length Nanoseconds = omega arith

digits_ascii : (n one left : ℕ) → left < one → IsAscii (fraction_digits n one left)
unfolding fraction_digits
digits_ascii zero one left part = IsAscii-nil
digits_ascii (suc n) one left part =
    elim (cases_Bool (left == 0)) [
      | inl none ↦ rw none IsAscii-nil
      | inr some ↦
          let small : 48 + left * 10 / one < 128 = omega (arith, digit_small one left part) in
          rw some (IsAscii-cons (48 + left * 10 / one) _ small (digits_ascii n one (left * 10 % one) (left_small one left part)))
    ]

fraction_ascii : (one rest : ℕ) → rest < one → IsAscii (fraction one rest)
unfolding fraction
fraction_ascii one rest part =
    elim (cases_Bool (rest == 0)) [
      | inl none ↦ rw none IsAscii-nil
      | inr some ↦ rw some (IsAscii-cons 46 _ (omega arith) (digits_ascii MOST_DIGITS one rest part))
    ]

-- nanoseconds in a unit
pub told_text : (unit : TimeUnit) (nanoseconds : ℕ) → nanoseconds < 2 ^ 128 → IsUtf8 (decimal_in unit nanoseconds)
told_text unit nanoseconds fits =
    let one = unit_length unit in
    let whole : nanoseconds / one < 10 ^ 64 = search (arith, fits) in
    let ascii = IsAscii-append (decimal (nanoseconds / one)) (fraction one (nanoseconds % one)) (IsAscii-decimal_wide (nanoseconds / one) whole) (fraction_ascii one (nanoseconds % one) (mod_below nanoseconds one (some_length unit))) in
    IsUtf8-from_ascii (decimal_in unit nanoseconds) ascii
