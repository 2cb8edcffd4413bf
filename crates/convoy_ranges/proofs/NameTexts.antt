-- Names are text.
use Rattle.std.proofs.Common.{◌≡◌, ℕ, zero, suc, ◌<◌, ◌&&◌, ◌||◌, ◌==◌, not, true, leb, List, [], ◌∷◌, arith, refl, inl, inr}
use Rattle.std.specs.List.{list_all}
use Rattle.std.specs.Str.{IsAscii, IsUtf8, bytes_eq}
use Rattle.std.proofs.lemmas.Bool.{and_parts, and_from, or_cases, eqb-true, leb-true, false≢true}
use Rattle.std.proofs.lemmas.Str.{IsUtf8-from_ascii}
use Rattle.convoy_draft.specs.Names.{is_letter, is_digit, is_name_byte, is_name, is_group_name, client_word}

byte_below : (c : ℕ) → is_name_byte c ≡ true → c < 128
byte_below c e =
    elim (or_cases (is_letter c || is_digit c || c == 95) (c == 45) e) [
      | inl a ↦ elim (or_cases (is_letter c || is_digit c) (c == 95) a) [
        | inl b ↦ elim (or_cases (is_letter c) (is_digit c) b) [
          | inl letter ↦ let p = and_parts (leb 97 c) (leb c 122) letter in omega (arith, leb-true c 122 p.1)
          | inr digit ↦ let p = and_parts (leb 48 c) (leb c 57) digit in omega (arith, leb-true c 57 p.1)
        ]
        | inr underscore ↦ let is : c ≡ 95 = eqb-true c 95 underscore in omega arith
      ]
      | inr dash ↦ let is : c ≡ 45 = eqb-true c 45 dash in omega arith
    ]

bytes_ascii : (cs : List ℕ) → list_all is_name_byte cs ≡ true → IsAscii cs
bytes_ascii [] all i = omega arith
bytes_ascii (c ∷ cs) all zero = let p = and_parts (is_name_byte c) (list_all is_name_byte cs) all in byte_below c p.0
bytes_ascii (c ∷ cs) all (suc i) = let p = and_parts (is_name_byte c) (list_all is_name_byte cs) all in bytes_ascii cs p.1 i

letter_byte : (c : ℕ) → is_letter c ≡ true → is_name_byte c ≡ true
letter_byte c e = rw e refl

name_bytes : (name : List ℕ) → is_name name ≡ true → list_all is_name_byte name ≡ true
name_bytes [] e = absurd (false≢true e)
name_bytes (c ∷ cs) e =
    let p = and_parts (is_letter c && list_all is_name_byte cs) _ e in
    let q = and_parts (is_letter c) (list_all is_name_byte cs) p.0 in
    and_from _ _ (letter_byte c q.0) q.1

-- a name that a group may have is text
pub name_text : (name : List ℕ) → is_group_name name ≡ true → IsUtf8 name
name_text name e =
    let p = and_parts (is_name name) (not (bytes_eq name client_word)) e in
    IsUtf8-from_ascii name (bytes_ascii name (name_bytes name p.0))
