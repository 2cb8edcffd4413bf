-- A line cut at its first space, and the place of the first such byte.
use Rattle.std.proofs.Common.{◌≡◌, ℕ, zero, suc, ◌<◌, ◌≤◌, ◌==◌, Bool, not, Bor, false, cond, ltb, List, [], ◌∷◌, ◌++◌, length, get_or, take, Option, Some, None, MatchOption, refl, ap, sym, subst, ◌∙◌, arith, inl, inr}
use Rattle.std.specs.Option.{is_some, option_copied}
use Rattle.std.specs.List.{onto_first, list_any, position_or_len}
use Rattle.std.proofs.lemmas.Bool.{or_parts, not-true, not-false, or_from, cases_lt, ne_eqb, eqb-true, lt-ltb, le-ltb}
use Rattle.std.proofs.lemmas.List.Splits.{slice_split-cons_no, length-slice_split}
use Rattle.std.proofs.lemmas.List.Sums.{fails_before_first, passes_at_first}
use Rattle.std.proofs.Math.Seq.{take-length}
use Rattle.convoy_lines.specs.Words.{Lacks, joined_by, words_of, words_left}

pub lone_word : (front : List ℕ) → Lacks 32 front → words_of front ≡ front ∷ []
lone_word [] lacks = refl
lone_word (x ∷ xs) lacks =
    let p = or_parts (x == 32) (list_any (λ b. b == 32) xs) lacks in
    slice_split-cons_no (λ b. b == 32) x xs p.0 ∙ ap (onto_first x) (lone_word xs p.1)

pub next_word : (front rest : List ℕ) → Lacks 32 front → words_of (front ++ 32 ∷ rest) ≡ front ∷ words_of rest
next_word [] rest lacks = refl
next_word (x ∷ xs) rest lacks =
    let p = or_parts (x == 32) (list_any (λ b. b == 32) xs) lacks in
    slice_split-cons_no (λ b. b == 32) x (xs ++ 32 ∷ rest) p.0 ∙ ap (onto_first x) (next_word xs rest p.1)

-- the words of a line that was cut
pub cut_words : (line front : List ℕ) (rest : Option (List ℕ)) → Lacks 32 front → line ≡ joined_by 32 front rest → words_of line ≡ front ∷ words_left rest
cut_words line front None lacks e = ap words_of e ∙ lone_word front lacks
cut_words line front (Some rest) lacks e = ap words_of e ∙ next_word front rest lacks

-- only the words of no line are over
pub are_over : (o : Option (Bor (List ℕ))) (r : Bool) → is_some o ≡ not r → r ≡ (length (words_left (option_copied o)) == 0)
are_over None r e = not-false r (sym e)
are_over (Some line) r e = not-true r (sym e) ∙ sym (ne_eqb _ _ (λ z. omega (arith, length-slice_split (λ b. b == 32) line.now, z)))

lacks_before : (byte : ℕ) (bytes : List ℕ) (n : ℕ) → n ≤ length bytes → ((k : ℕ) → k < n → (get_or bytes k 0 == byte) ≡ false) → Lacks byte (take n bytes)
lacks_before byte bytes zero le none = refl
lacks_before byte [] (suc n) le none = refl
lacks_before byte (x ∷ xs) (suc n) le none = or_from _ _ (none 0 (omega arith)) (lacks_before byte xs n (omega arith) (λ k h. none (suc k) (omega arith)))

-- the first place of a byte
pub first_place : (byte : ℕ) (bytes : List ℕ) (r : Option ℕ) → r ≡ cond (ltb (position_or_len (λ b. b == byte) bytes) (length bytes)) (Some (position_or_len (λ b. b == byte) bytes)) None
    → MatchOption r (Lacks byte bytes) (λ i. (i < length bytes) × Lacks byte (take i bytes) × (get_or bytes i 0 ≡ byte))
first_place byte bytes r e =
    elim (cases_lt (position_or_len (λ b. b == byte) bytes) (length bytes)) [
      | inl lt ↦ rw (e, lt-ltb _ _ lt) (lt, lacks_before byte bytes (position_or_len (λ b. b == byte) bytes) (omega arith) (λ k h. fails_before_first (λ b. b == byte) bytes k 0 h), eqb-true _ _ (passes_at_first (λ b. b == byte) bytes 0 lt))
      | inr le ↦ rw (e, le-ltb _ _ le) (subst (Lacks byte) (take-length bytes) (lacks_before byte bytes (length bytes) (omega arith) (λ k h. fails_before_first (λ b. b == byte) bytes k 0 (omega arith))))
    ]
