-- Decimal texts that are numbers of JSON: `decimal n` is one, and with a point and digits after it, too.
use Rattle.std.proofs.Common.{◌≡◌, ℕ, zero, suc, ◌+◌, ◌^◌, ◌<◌, ◌≤◌, ◌==◌, true, false, cond, List, [], ◌∷◌, ◌++◌, length, drop, get_or, Some, option_and_then, decimal, refl, ap, ◌∙◌, arith}
use Rattle.std.proofs.lemmas.Bool.{and_from, and_parts, le-leb, ne_eqb}
use Rattle.std.proofs.lemmas.Fmt.{decimal_digit, decimal_is_IsNumeral, first_decimal}
use Rattle.std.proofs.Math.Seq.{drop-append_seam}
use Rattle.std.proofs.lemmas.List.{drop_all}
use Rattle.std.proofs.lemmas.Str.Parse.{digit_at}
use Rattle.std.specs.Char.{is_ascii_digit}
use Rattle.std.specs.List.{prefix_len}
use Rattle.std.specs.Str.{all_ascii_digits}
use Rattle.json.specs.Print.{IsNumber}
pub use Rattle.json.proofs.Printed.Decimals.{IsNumber-decimal}
use Rattle.json.specs.Word.{after_exponent, after_fraction, after_number, after_whole, head}

-- digits, and nothing after them
only_digits : (digits : List ℕ) → all_ascii_digits digits ≡ true → prefix_len is_ascii_digit digits ≡ length digits
only_digits [] all = refl
only_digits (d ∷ ds) all =
    let p = and_parts (is_ascii_digit d) (all_ascii_digits ds) all in
    ap (λ b. cond b (1 + prefix_len is_ascii_digit ds) 0) p.0 ∙ omega (arith, only_digits ds p.1)

fraction : (digits : List ℕ) → all_ascii_digits digits ≡ true → 0 < length digits → after_fraction (46 ∷ digits) ≡ Some []
fraction digits all some =
    rw (only_digits digits all, ne_eqb (length digits) 0 (λ e. omega arith)) (ap Some (drop_all (length digits) digits (omega arith)))

-- digits, and a point after them
digits_to_point : (ds rest : List ℕ) → ((i : ℕ) → i < length ds → (48 ≤ get_or ds i 0) × (get_or ds i 0 ≤ 57)) → prefix_len is_ascii_digit (ds ++ 46 ∷ rest) ≡ length ds
digits_to_point [] rest h = refl
digits_to_point (d ∷ ds) rest h =
    let first = h 0 (omega arith) in
    let more = digits_to_point ds rest (λ i l. h (suc i) (omega arith)) in
    ap (λ b. cond b (1 + prefix_len is_ascii_digit (ds ++ 46 ∷ rest)) 0) (and_from _ _ (le-leb 48 d first.0) (le-leb d 57 first.1)) ∙ omega arith

whole_to_point : (ds rest : List ℕ) → 48 < get_or ds 0 0 → prefix_len is_ascii_digit (ds ++ 46 ∷ rest) ≡ length ds
    → (after_whole (ds ++ 46 ∷ rest) ≡ Some (46 ∷ rest)) × ((head (ds ++ 46 ∷ rest) == 45) ≡ false)
whole_to_point [] rest first all = absurd (omega arith)
whole_to_point (d ∷ ds) rest first all = (
  rw (ne_eqb d 48 (λ e. omega arith), all, ne_eqb (suc (length ds)) 0 (λ e. omega arith)) (ap Some (drop-append_seam (d ∷ ds) (46 ∷ rest))),
  ne_eqb d 45 (λ e. omega arith),
)

decimal_to_point : (n : ℕ) (rest : List ℕ) → n < 2 ^ 64 → (after_whole (decimal n ++ 46 ∷ rest) ≡ Some (46 ∷ rest)) × ((head (decimal n ++ 46 ∷ rest) == 45) ≡ false)
decimal_to_point zero rest h =
    let e = decimal_digit 0 (omega arith) in
    (ap (λ l. after_whole (l ++ 46 ∷ rest)) e, ap (λ l. head (l ++ 46 ∷ rest) == 45) e)
decimal_to_point (suc n) rest h =
    whole_to_point (decimal (suc n)) rest (first_decimal (suc n) (omega arith) h)
    (digits_to_point _ rest (λ i l. digit_at _ i (decimal_is_IsNumeral (suc n) h).0.1 l))

-- a number, a point and digits
pub with_fraction : (n : ℕ) (digits : List ℕ) → n < 2 ^ 64 → all_ascii_digits digits ≡ true → 0 < length digits → IsNumber (decimal n ++ 46 ∷ digits)
unfolding after_number
with_fraction n digits h all some =
    let text = decimal n ++ 46 ∷ digits in
    let w = decimal_to_point n digits h in
    ap (λ o. option_and_then after_exponent (option_and_then after_fraction o)) (ap (λ b. after_whole (cond b (drop 1 text) text)) w.1 ∙ w.0)
    ∙ ap (option_and_then after_exponent) (fraction digits all some)
