-- A text cut at its first byte 10, and the lines that it has.
use Rattle.std.proofs.Common.{◌≡◌, ℕ, ◌==◌, ◌<◌, ◌&&◌, inl, inr, arith, Bool, false, List, [], ◌∷◌, ◌++◌, length, Option, Some, None, refl, ap, sym, ◌∙◌}
use Rattle.std.specs.List.{list_any}
use Rattle.std.proofs.lemmas.Bool.{or_parts, and_left, ne_eqb, cases_Bool}
use Rattle.convoy_lines.specs.Words.{Lacks, joined_by}
use Rattle.convoy_lines.specs.Places.{Lines, Place, in_front, with_byte, lines_in, place_before, upcoming, is_at_end}

-- a text of a line and more
pub lines_after : (line rest : List ℕ) → Lacks 10 line → lines_in (line ++ 10 ∷ rest) ≡ record { ended = line ∷ (lines_in rest).ended; rest = (lines_in rest).rest }
lines_after [] rest lacks = refl
lines_after (x ∷ xs) rest lacks =
    let p = or_parts (x == 10) (list_any (λ b. b == 10) xs) lacks in
    ap (with_byte x) (lines_after xs rest p.1) ∙ rw p.0 refl

-- a text with no line that is ended
pub lines_none : (rest : List ℕ) → Lacks 10 rest → lines_in rest ≡ record { ended = []; rest = rest }
lines_none [] lacks = refl
lines_none (x ∷ xs) lacks =
    let p = or_parts (x == 10) (list_any (λ b. b == 10) xs) lacks in
    ap (with_byte x) (lines_none xs p.1) ∙ rw p.0 refl

abbrev placed : ℕ → Lines → Place
placed number lines = record { ended = lines.ended; rest = lines.rest; number = number }

-- where a line was cut off
pub at_line : (text line rest : List ℕ) (number : ℕ) → Lacks 10 line → text ≡ joined_by 10 line (Some rest)
    → place_before text number ≡ record { ended = line ∷ (lines_in rest).ended; rest = (lines_in rest).rest; number = number }
at_line text line rest number lacks e = ap (λ t. placed number (lines_in t)) e ∙ ap (placed number) (lines_after line rest lacks)

-- where no line is ended
pub at_rest : (text rest : List ℕ) (number : ℕ) → Lacks 10 rest → text ≡ rest → place_before text number ≡ record { ended = []; rest = rest; number = number }
at_rest text rest number lacks e = ap (λ t. placed number (lines_in t)) e ∙ ap (placed number) (lines_none rest lacks)

pub comes_next : (text front : List ℕ) (rest : Option (List ℕ)) (number : ℕ) → Lacks 10 front → text ≡ joined_by 10 front rest → front ≡ upcoming (place_before text number)
comes_next text front None number lacks e = sym (ap upcoming (at_rest text front number lacks e))
comes_next text front (Some rest) number lacks e = sym (ap upcoming (at_line text front rest number lacks e))

and_is_false : (b : Bool) (n : ℕ) → 0 < n → false ≡ ((n == 0) && b)
and_is_false b n lt = sym (and_left (n == 0) b (ne_eqb n 0 (λ e. omega arith)))

in_front_is_some : (byte : ℕ) (ended : List (List ℕ)) (rest : List ℕ) (number : ℕ) → false ≡ is_at_end (placed number (in_front byte ended rest))
in_front_is_some byte [] rest number = sym (ne_eqb (length (byte ∷ rest)) 0 (λ e. omega arith))
in_front_is_some byte (line ∷ lines) rest number = and_is_false (length rest == 0) (length ((byte ∷ line) ∷ lines)) (omega arith)

-- a text is over where it has no byte
pub is_over : (text : List ℕ) (number : ℕ) → (length text == 0) ≡ is_at_end (place_before text number)
is_over [] number = refl
is_over (x ∷ xs) number =
    ne_eqb (length (x ∷ xs)) 0 (λ e. omega arith)
    ∙ elim (cases_Bool (x == 10)) [
      | inl end ↦ rw end (and_is_false (length (lines_in xs).rest == 0) (length ([] ∷ (lines_in xs).ended)) (omega arith))
      | inr other ↦ rw other (in_front_is_some x (lines_in xs).ended (lines_in xs).rest number)
    ]
