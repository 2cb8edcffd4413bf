-- Digits after a point, one after another.
use Rattle.std.proofs.Common.{◌≡◌, ℕ, zero, suc, ◌+◌, ◌-◌, ◌*◌, ◌/◌, ◌%◌, ◌<◌, ◌≤◌, ◌==◌, false, List, [], ◌∷◌, ◌++◌, refl, ap, sym, ◌∙◌, append_assoc, append-nil, arith}
use Rattle.std.proofs.Math.Nat.{div-lt_iff_lt-mul}
use Rattle.std.proofs.lemmas.Bool.Decides.{nat_tests}
use Rattle.convoy_times.specs.Measures.{fraction_digits}

-- a digit is at most 9
pub digit_small : (one rest : ℕ) → rest < one → rest * 10 / one ≤ 9
digit_small one rest part = omega (arith, (div-lt_iff_lt-mul {k = one} {x = rest * 10} {y = 10} (omega (arith, part))).1 (omega (arith, part)))

-- what is left is less than one again
pub left_small : (one rest : ℕ) → rest < one → rest * 10 % one < one
left_small one rest part = search (arith, part)

-- no digit of nothing
pub digits_of_nothing : (n one : ℕ) → fraction_digits n one 0 ≡ []
unfolding fraction_digits
digits_of_nothing zero one = refl
digits_of_nothing (suc n) one = refl

-- no digit more
no_digits : (one left : ℕ) → fraction_digits 0 one left ≡ []
unfolding fraction_digits
no_digits one left = refl

-- the first digit, and those of what is left
first_digit : (i one left : ℕ) → i < 9 → (left == 0) ≡ false → fraction_digits (9 - i) one left ≡ (48 + left * 10 / one) ∷ fraction_digits (9 - (i + 1)) one (left * 10 % one)
unfolding fraction_digits
first_digit i one left few some =
    let e : 9 - i ≡ suc (9 - (i + 1)) = omega (arith, few) in
    rw (e, some) refl

-- a digit is told, and what is left is still to come
pub digit_told : (i one left : ℕ) (out new all : List ℕ) → i < 9 → (left ≡ 0 → ⊥) → new ≡ out ++ (48 + left * 10 / one) ∷ [] → out ++ fraction_digits (9 - i) one left ≡ all → new ++ fraction_digits (9 - (i + 1)) one (left * 10 % one) ≡ all
digit_told i one left out new all few some pushed e =
    let more : (left == 0) ≡ false = grind (arith, nat_tests, some) in
    let rest = fraction_digits (9 - (i + 1)) one (left * 10 % one) in
    ap (λ t. t ++ rest) pushed ∙ append_assoc out ((48 + left * 10 / one) ∷ []) rest ∙ ap (λ t. out ++ t) (sym (first_digit i one left few more)) ∙ e

-- all is told once nothing is left
pub nothing_left : (n one left : ℕ) (out all : List ℕ) → left ≡ 0 → out ++ fraction_digits n one left ≡ all → out ≡ all
nothing_left n one left out all none e =
    let gone : fraction_digits n one left ≡ [] = rw none (digits_of_nothing n one) in
    sym (append-nil out) ∙ ap (λ t. out ++ t) (sym gone) ∙ e

-- all is told once so many digits are
pub all_told : (i one left : ℕ) (out all : List ℕ) → 9 ≤ i → out ++ fraction_digits (9 - i) one left ≡ all → out ≡ all
all_told i one left out all over e =
    let none : 9 - i ≡ 0 = omega (arith, over) in
    let gone : fraction_digits (9 - i) one left ≡ [] = rw none (no_digits one left) in
    sym (append-nil out) ∙ ap (λ t. out ++ t) (sym gone) ∙ e
