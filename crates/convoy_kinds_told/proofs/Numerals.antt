-- A decimal number, as times are told, is a number of JSON.
use Rattle.std.proofs.Common.{◌≡◌, ℕ, suc, ◌+◌, ◌<◌, ◌==◌, Bool, true, false, cond, ◌&&◌, ◌||◌, not, List, [], ◌∷◌, ◌++◌, length, take, drop, get_or, position, Option, Some, None, option_and_then, ◌⊎◌, inl, inr, append-nil, refl, ap, sym, subst, ◌∙◌, arith}
use Rattle.std.proofs.Math.Seq.{drop-append_seam, drop-cons}
use Rattle.std.proofs.lemmas.Bool.{and_parts, cases_Bool, ne_eqb}
use Rattle.std.proofs.lemmas.Bool.Decides.{nat_tests}
use Rattle.std.proofs.lemmas.List.{drop_all, take-append-drop}
use Rattle.std.proofs.lemmas.List.Quantifiers.{position-Some}
use Rattle.std.specs.Char.{is_ascii_digit}
use Rattle.std.specs.List.{prefix_len}
use Rattle.std.specs.Str.{all_ascii_digits}
use Rattle.json.specs.Print.{IsNumber}
use Rattle.json.specs.Word.{after_exponent, after_fraction, after_number, after_whole, head}
use Rattle.convoy_lines.specs.Words.{has_no_leading_zero, is_number}
use Rattle.convoy_times.specs.TimeLaws.{are_decimals, is_decimal}

-- digits, and no digit after them
digits_end : (digits rest : List ℕ) → all_ascii_digits digits ≡ true → is_ascii_digit (head rest) ≡ false →
    prefix_len is_ascii_digit (digits ++ rest) ≡ length digits
digits_end [] [] all ends = refl
digits_end [] (c ∷ cs) all ends = ap (λ b. cond b (1 + prefix_len is_ascii_digit cs) 0) ends
digits_end (d ∷ ds) rest all ends =
    let p = and_parts (is_ascii_digit d) (all_ascii_digits ds) all in
    ap (λ b. cond b (1 + prefix_len is_ascii_digit (ds ++ rest)) 0) p.0 ∙ omega (arith, digits_end ds rest p.1 ends)

-- a whole number, and no digit after it
whole_ends : (whole rest : List ℕ) → is_number whole ≡ true → is_ascii_digit (head rest) ≡ false →
    (after_whole (whole ++ rest) ≡ Some rest) × ((head (whole ++ rest) == 45) ≡ false)
whole_ends [] rest is ends = cc
whole_ends (d ∷ ds) rest is ends =
    let p = and_parts (all_ascii_digits (d ∷ ds)) (has_no_leading_zero (d ∷ ds)) is in
    let digit = (and_parts (is_ascii_digit d) (all_ascii_digits ds) p.0).0 in
    (by_zero ds (cases_Bool (d == 48)) p.0 p.1, grind (arith, nat_tests, digit)) where
      by_zero : (ds : List ℕ) → ((d == 48) ≡ true) ⊎ ((d == 48) ≡ false) → all_ascii_digits (d ∷ ds) ≡ true → has_no_leading_zero (d ∷ ds) ≡ true →
          after_whole (d ∷ ds ++ rest) ≡ Some rest
      by_zero [] (inl zero) all leads = rw zero refl
      by_zero (e ∷ es) (inl zero) all leads =
          let wrong : false ≡ true = rw (zero, ne_eqb (suc (length es)) 0 (λ e. omega arith)) at leads in
          cc
      by_zero ds (inr some) all leads =
          rw (some, digits_end (d ∷ ds) rest all ends, ne_eqb (suc (length ds)) 0 (λ e. omega arith)) (ap Some (drop-append_seam (d ∷ ds) rest))

-- what stands after a point
decimals_are : (digits : List ℕ) → are_decimals digits ≡ true → (all_ascii_digits digits ≡ true) × (0 < length digits)
decimals_are [] is = cc
decimals_are (d ∷ []) is =
    let p = and_parts (is_ascii_digit d) (are_decimals [] || ((0 == 0) && not (d == 48))) is in
    (ap (λ b. b && true) p.0, omega arith)
decimals_are (d ∷ e ∷ es) is =
    let p = and_parts (is_ascii_digit d) (are_decimals (e ∷ es) || ((suc (length es) == 0) && not (d == 48))) is in
    let more : are_decimals (e ∷ es) ≡ true = first_holds (are_decimals (e ∷ es)) (suc (length es) == 0) (not (d == 48)) (ne_eqb (suc (length es)) 0 (λ z. omega arith)) p.1 in
    (ap (λ b. b && all_ascii_digits (e ∷ es)) p.0 ∙ (decimals_are (e ∷ es) more).0, omega arith) where
      first_holds : (a b c : Bool) → b ≡ false → (a || (b && c)) ≡ true → a ≡ true
      first_holds true b c none is = refl
      first_holds false b c none is = cc

fraction_ends : (digits : List ℕ) → are_decimals digits ≡ true → after_fraction (46 ∷ digits) ≡ Some []
fraction_ends digits is =
    let p = decimals_are digits is in
    rw (digits_only digits p.0, ne_eqb (length digits) 0 (λ e. omega (arith, p.1))) (ap Some (drop_all (length digits) digits (omega arith))) where
      digits_only : (digits : List ℕ) → all_ascii_digits digits ≡ true → prefix_len is_ascii_digit digits ≡ length digits
      digits_only [] all = refl
      digits_only (d ∷ ds) all =
          let p = and_parts (is_ascii_digit d) (all_ascii_digits ds) all in
          ap (λ b. cond b (1 + prefix_len is_ascii_digit ds) 0) p.0 ∙ omega (arith, digits_only ds p.1)

-- a whole number with nothing after it, or with what ends with a fraction
number_ends : (whole rest : List ℕ) → is_number whole ≡ true → is_ascii_digit (head rest) ≡ false → after_fraction rest ≡ Some [] → IsNumber (whole ++ rest)
unfolding after_number
number_ends whole rest is ends fraction =
    let text = whole ++ rest in
    let w = whole_ends whole rest is ends in
    ap (λ o. option_and_then after_exponent (option_and_then after_fraction o)) (ap (λ b. after_whole (cond b (drop 1 text) text)) w.1 ∙ w.0)
    ∙ ap (option_and_then after_exponent) fraction

-- a text is what stands before its first point, the point, and what stands after it
at_point : (text : List ℕ) (point : ℕ) → position (λ c. c == 46) text ≡ Some point → take point text ++ 46 ∷ drop (point + 1) text ≡ text
at_point text point is =
    let found = position-Some (λ c. c == 46) text point 0 is in
    let here : get_or text point 0 ≡ 46 = grind (arith, nat_tests, found.1) in
    let next : point + 1 ≡ suc point = omega arith in
    rw (next, ← here) (ap (λ t. take point text ++ t) (sym (drop-cons text point 0 found.0)) ∙ take-append-drop point text)

pub decimal_is_number : (text : List ℕ) → is_decimal text ≡ true → IsNumber text
decimal_is_number text is = by_point (position (λ c. c == 46) text) refl where
  by_point : (point : Option ℕ) → position (λ c. c == 46) text ≡ point → IsNumber text
  by_point None none =
      let whole : is_number text ≡ true = rw none at is in
      subst IsNumber (append-nil text) (number_ends text [] whole refl refl)
  by_point (Some point) found =
      let both : (is_number (take point text) && are_decimals (drop (point + 1) text)) ≡ true = rw found at is in
      let p = and_parts (is_number (take point text)) (are_decimals (drop (point + 1) text)) both in
      subst IsNumber (at_point text point found)
      (number_ends (take point text) (46 ∷ drop (point + 1) text) p.0 refl (fraction_ends (drop (point + 1) text) p.1))
