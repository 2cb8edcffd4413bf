-- Digits that are read one by one.
use Rattle.std.proofs.Common.{◌≡◌, ℕ, ◌+◌, ◌*◌, ◌-◌, ◌<◌, ◌≤◌, nat_le, true, false, leb, List, [], ◌∷◌, ◌&&◌, if◌then◌else◌, length, get_or, drop, drop-cons, Option, Some, None, refl, sym, ◌∙◌, arith, inl, inr}
use Rattle.std.specs.Char.{digit_value, is_ascii_digit}
use Rattle.std.specs.Str.{all_ascii_digits}
use Rattle.std.specs.Str.Parse.{digits_value_after}
use Rattle.std.proofs.lemmas.Bool.{cases_Bool, and_right, leb-true, leb-false, lt-leb, le-leb}
use Rattle.std.proofs.lemmas.List.{drop_all}
use Rattle.std.proofs.lemmas.Bool.Decides.{nat_tests}

-- the number so far, and the digits after it, as long as it is not above the most
abbrev pub digits_onto : ℕ → ℕ → List ℕ → Option ℕ
digits_onto most value [] = Some value
digits_onto most value (c ∷ cs) =
    if is_ascii_digit c && nat_le (value * 10 + (c - 48)) most then digits_onto most (value * 10 + (c - 48)) cs else None

-- the number that all the digits are, if it is at most so much
abbrev pub in_digits : ℕ → ℕ → List ℕ → Option ℕ
in_digits most value ds =
    if all_ascii_digits ds && nat_le (digits_value_after 10 value ds) most then Some (digits_value_after 10 value ds) else None

digit : (c : ℕ) → is_ascii_digit c ≡ true → digit_value c ≡ c - 48
digit c e = grind (arith, nat_tests, e)

grows : (n : ℕ) (ds : List ℕ) → n ≤ digits_value_after 10 n ds
grows n [] = omega arith
grows n (c ∷ cs) = omega (arith, grows (n * 10 + digit_value c) cs)

pub digits_onto_is : (most value : ℕ) (ds : List ℕ) → value ≤ most → digits_onto most value ds ≡ in_digits most value ds
digits_onto_is most value [] le = rw (le-leb value most le) refl
digits_onto_is most value (c ∷ cs) le =
    elim (cases_Bool (is_ascii_digit c)) [
      | inl all ↦
          elim (cases_Bool (leb (value * 10 + (c - 48)) most)) [
            | inl small ↦ rw (all, small, digit c all) (digits_onto_is most (value * 10 + (c - 48)) cs (leb-true _ _ small))
            | inr large ↦
                let above : most < digits_value_after 10 (value * 10 + (c - 48)) cs = omega (arith, grows (value * 10 + (c - 48)) cs, leb-false _ _ large) in
                rw (all, large, digit c all, lt-leb _ _ above, and_right (all_ascii_digits cs) false refl) refl
          ]
      | inr other ↦ rw other refl
    ]

-- a digit that ends the reading
pub stops : (most value i : ℕ) (ds : List ℕ) → i < length ds → value ≤ most → digits_onto most value (drop i ds) ≡ digits_onto most 0 ds
    → (is_ascii_digit (get_or ds i 0) && leb (value * 10 + (get_or ds i 0 - 48)) most) ≡ false → None ≡ in_digits most 0 ds
stops most value i ds lt le so_far none =
    let at : digits_onto most value (drop i ds) ≡ None = rw (drop-cons ds i 0 lt, none) refl in
    sym at ∙ so_far ∙ digits_onto_is most 0 ds (omega arith)

-- no digit more
pub ends : (most value i : ℕ) (ds : List ℕ) → value ≤ most → length ds ≤ i → digits_onto most value (drop i ds) ≡ digits_onto most 0 ds → Some value ≡ in_digits most 0 ds
ends most value i ds small le so_far =
    let at : digits_onto most value (drop i ds) ≡ Some value = rw (drop_all i ds le) refl in
    sym at ∙ so_far ∙ digits_onto_is most 0 ds (omega arith)
