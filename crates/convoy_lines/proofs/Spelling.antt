-- Words, lines and texts: what is written is read again, and what is read was written so.
use Rattle.std.proofs.Common.{◌≡◌, ℕ, ◌<◌, ◌≤◌, ◌^◌, ◌==◌, ◌||◌, ◌&&◌, Bool, not, true, false, leb, List, [], ◌∷◌, ◌++◌, length, get_or, Some, inl, inr, refl, ap, sym, subst, ◌∙◌, append_assoc, arith, decimal}
use Rattle.std.specs.List.{onto_first, list_any, AllByRecursion}
use Rattle.std.specs.Str.{all_ascii_digits}
use Rattle.std.specs.Str.Parse.{digits_value}
use Rattle.std.proofs.lemmas.Bool.{or_parts, eq-eqb, or_from, and_parts, not-true, cases_Bool, cases_lt, eqb-true, ne_eqb, leb-true, le-leb, false≢true}
use Rattle.std.proofs.lemmas.List.{append-nil}
use Rattle.std.proofs.lemmas.List.Splits.{length-slice_split}
use Rattle.std.proofs.lemmas.Option.{cond_some}
use Rattle.std.proofs.lemmas.Fmt.{decimal_digit, decimal_nonempty, first_decimal, digits_decimal, digits_value-decimal, decimal-digits_value}
use Rattle.std.proofs.lemmas.Str.Parse.{IsNumeralModel, numerals_by_value, tells_all_ascii_digits}
use Rattle.convoy_lines.specs.Words.{Lacks, words_of, has_no_leading_zero, is_number, number_of}
use Rattle.convoy_lines.specs.Texts.{line_of, text_of}
use Rattle.convoy_lines.specs.Places.{Lines, in_front, lines_in}
use Rattle.convoy_lines.specs.LineLaws.{IsWord, IsLine}
use Rattle.convoy_lines.proofs.Cutting.{lone_word, next_word}
use Rattle.convoy_lines.proofs.Splitting.{lines_after}

-- ---- bytes

pub lacks_append : (byte : ℕ) (xs ys : List ℕ) → Lacks byte xs → Lacks byte ys → Lacks byte (xs ++ ys)
lacks_append byte [] ys p q = q
lacks_append byte (x ∷ xs) ys p q =
    let h = or_parts (x == byte) (list_any (λ b. b == byte) xs) p in
    or_from _ _ h.0 (lacks_append byte xs ys h.1 q)

-- ---- words

abbrev pub AreWords : List (List ℕ) → Type 0
AreWords words = AllByRecursion IsWord words

-- the bytes are those of a word
abbrev is_word : List ℕ → Bool
is_word word = leb 1 (length word) && not (list_any (λ b. b == 32) word) && not (list_any (λ b. b == 10) word)

-- bytes that are known are a word: the test tells it
pub known_word : (word : List ℕ) → is_word word ≡ true → IsWord word
known_word word e =
    let parts = and_parts (leb 1 (length word) && not (list_any (λ b. b == 32) word)) (not (list_any (λ b. b == 10) word)) e in
    let front = and_parts (leb 1 (length word)) (not (list_any (λ b. b == 32) word)) parts.0 in
    record { some = omega (arith, leb-true 1 (length word) front.0); spaceless = not-true _ front.1; endless = not-true _ parts.1 }

-- the words of a line that was written
pub words_again : (word : List ℕ) (words : List (List ℕ)) → Lacks 32 word → AreWords words → words_of (line_of word words) ≡ word ∷ words
words_again word [] lacks are = ap words_of (append-nil word) ∙ lone_word word lacks
words_again word (w ∷ ws) lacks are = next_word word (line_of w ws) lacks ∙ ap (λ t. word ∷ t) (words_again w ws are.0.spaceless are.1)

-- such a line has no byte 10
pub line_lacks : (word : List ℕ) (words : List (List ℕ)) → Lacks 10 word → AreWords words → Lacks 10 (line_of word words)
line_lacks word [] lacks are = rw (append-nil word) lacks
line_lacks word (w ∷ ws) lacks are = lacks_append 10 word (32 ∷ line_of w ws) lacks (line_lacks w ws are.0.endless are.1)

-- a line by its words
abbrev pub by_words : List (List ℕ) → List ℕ
by_words [] = []
by_words (word ∷ words) = line_of word words

glue : (x : ℕ) (parts : List (List ℕ)) (xs : List ℕ) → 0 < length parts → by_words parts ≡ xs → by_words (onto_first x parts) ≡ x ∷ xs
glue x [] xs some e = absurd (omega arith)
glue x (part ∷ parts) xs some e = ap (λ t. x ∷ t) e

split_off : (parts : List (List ℕ)) (xs : List ℕ) → 0 < length parts → by_words parts ≡ xs → by_words ([] ∷ parts) ≡ 32 ∷ xs
split_off [] xs some e = absurd (omega arith)
split_off (part ∷ parts) xs some e = ap (λ t. 32 ∷ t) e

-- a line is its words, with one space between two of them
pub line_again : (line : List ℕ) → by_words (words_of line) ≡ line
line_again [] = refl
line_again (x ∷ xs) =
    let some : 0 < length (words_of xs) = omega (arith, length-slice_split (λ b. b == 32) xs) in
    elim (cases_Bool (x == 32)) [
      | inl space ↦
          let is : x ≡ 32 = eqb-true x 32 space in
          rw space (split_off (words_of xs) xs some (line_again xs) ∙ ap (λ b. b ∷ xs) (sym is))
      | inr other ↦ rw other (glue x (words_of xs) xs some (line_again xs))
    ]

-- the words read from a line make it again
pub line_takes : (line word : List ℕ) (words : List (List ℕ)) → words_of line ≡ word ∷ words → line ≡ line_of word words
line_takes line word words read = sym (line_again line) ∙ ap by_words read

-- ---- lines

abbrev pub AreLines : List (List ℕ) → Type 0
AreLines lines = AllByRecursion IsLine lines

pub lines_append : (xs ys : List (List ℕ)) → AreLines xs → AreLines ys → AreLines (xs ++ ys)
lines_append [] ys a b = b
lines_append (x ∷ xs) ys a b = (a.0, lines_append xs ys a.1 b)

-- the lines of a text that was written
pub lines_again : (lines : List (List ℕ)) → AreLines lines → lines_in (text_of lines) ≡ record { ended = lines; rest = [] }
lines_again [] are = refl
lines_again (line ∷ lines) are =
    let parts : text_of (line ∷ lines) ≡ line ++ 10 ∷ text_of lines = append_assoc line (10 ∷ []) (text_of lines) in
    let more : Lines → Lines = λ l. record { ended = line ∷ l.ended; rest = l.rest } in
    ap lines_in parts ∙ lines_after line (text_of lines) are.0 ∙ ap more (lines_again lines are.1)

front_again : (byte : ℕ) (lines : List (List ℕ)) (rest text : List ℕ) → text_of lines ++ rest ≡ text → text_of (in_front byte lines rest).ended ++ (in_front byte lines rest).rest ≡ byte ∷ text
front_again byte [] rest text e = ap (λ t. byte ∷ t) e
front_again byte (line ∷ lines) rest text e = ap (λ t. byte ∷ t) e

-- a text is its lines and what follows them
pub text_again : (text : List ℕ) → text_of (lines_in text).ended ++ (lines_in text).rest ≡ text
text_again [] = refl
text_again (x ∷ xs) =
    elim (cases_Bool (x == 10)) [
      | inl end ↦
          let is : x ≡ 10 = eqb-true x 10 end in
          rw end (ap (λ t. 10 ∷ t) (text_again xs) ∙ ap (λ b. b ∷ xs) (sym is))
      | inr other ↦ rw other (front_again x (lines_in xs).ended (lines_in xs).rest xs (text_again xs))
    ]

-- a text with nothing after its last line is its lines
pub text_takes : (text : List ℕ) (lines : List (List ℕ)) → lines_in text ≡ record { ended = lines; rest = [] } → text ≡ text_of lines
text_takes text lines read = sym (text_again text) ∙ ap (λ (l : Lines). text_of l.ended ++ l.rest) read ∙ append-nil (text_of lines)

front_lines : (byte : ℕ) (lines : List (List ℕ)) (rest : List ℕ) → byte == 10 ≡ false → AreLines lines → AreLines (in_front byte lines rest).ended
front_lines byte [] rest other are = tt
front_lines byte (line ∷ lines) rest other are = (or_from (byte == 10) _ other are.0, are.1)

-- no line of a text has its end inside it
pub lines_are : (text : List ℕ) → AreLines (lines_in text).ended
lines_are [] = tt
lines_are (x ∷ xs) =
    elim (cases_Bool (x == 10)) [
      | inl end ↦ rw end (refl, lines_are xs)
      | inr other ↦ rw other (front_lines x (lines_in xs).ended (lines_in xs).rest other (lines_are xs))
    ]

-- ---- numbers

own : IsNumeralModel (λ ds. all_ascii_digits ds ≡ true) (digits_value 10)
own = numerals_by_value (λ ds. all_ascii_digits ds ≡ true) tells_all_ascii_digits

no_zero : (ds : List ℕ) → 0 < length ds → (get_or ds 0 0 ≡ 48 → length ds ≡ 1) → has_no_leading_zero ds ≡ true
no_zero [] some lone = absurd (omega arith)
no_zero (d ∷ ds) some lone =
    elim (cases_Bool (d == 48)) [
      | inl zero ↦ let one : length (d ∷ ds) ≡ 1 = lone (eqb-true d 48 zero) in rw (zero, eq-eqb (length ds) 0 (omega arith)) refl
      | inr other ↦ rw other refl
    ]

zero_alone : (ds : List ℕ) → has_no_leading_zero ds ≡ true → (0 < length ds) × (get_or ds 0 0 ≡ 48 → length ds ≡ 1)
zero_alone [] h = absurd (false≢true h)
zero_alone (d ∷ ds) h = (omega arith, λ is. lone is) where
  lone : d ≡ 48 → length (d ∷ ds) ≡ 1
  lone is =
      let test : (not (48 == 48) || (length ds == 0)) ≡ true = subst (λ (b : ℕ). (not (b == 48) || (length ds == 0)) ≡ true) is h in
      let none : length ds ≡ 0 = eqb-true (length ds) 0 test in omega arith

decimal_zero : (n : ℕ) → n < 2 ^ 64 → get_or (decimal n) 0 0 ≡ 48 → length (decimal n) ≡ 1
decimal_zero n fits first =
    elim (cases_lt 0 n) [
      | inl large ↦ absurd (omega (arith, first_decimal n large fits))
      | inr small ↦ let none : n ≡ 0 = omega arith in rw (none, decimal_digit 0 (omega arith)) refl
    ]

-- a number that was written
pub number_again : (most n : ℕ) → most < 2 ^ 64 → n ≤ most → number_of most (decimal n) ≡ Some n
number_again most n high within =
    let fits : n < 2 ^ 64 = omega arith in
    rw (digits_decimal own n fits, no_zero (decimal n) (decimal_nonempty n fits) (decimal_zero n fits), digits_value-decimal own n fits, le-leb n most within) refl

-- a number that was read
pub number_takes : (most : ℕ) (word : List ℕ) (n : ℕ) → most < 2 ^ 64 → number_of most word ≡ Some n → (word ≡ decimal n) × (n ≤ most)
number_takes most word n fits e =
    let test = cond_some (is_number word && leb (digits_value 10 word) most) (digits_value 10 word) n e in
    let parts = and_parts (is_number word) (leb (digits_value 10 word) most) test.0 in
    let number = and_parts (all_ascii_digits word) (has_no_leading_zero word) parts.0 in
    let zero = zero_alone word number.1 in
    let within = leb-true (digits_value 10 word) most parts.1 in
    let text = decimal-digits_value own word number.0 zero.0 zero.1 (omega arith) in
    (sym text ∙ ap decimal test.1, rw (← test.1) within)

digits_lack : (byte : ℕ) (ds : List ℕ) → byte < 48 → all_ascii_digits ds ≡ true → Lacks byte ds
digits_lack byte [] low all = refl
digits_lack byte (d ∷ ds) low all =
    let h = and_parts _ (all_ascii_digits ds) all in
    let digit = and_parts (leb 48 d) (leb d 57) h.0 in
    or_from (d == byte) _ (ne_eqb d byte (λ e. omega (arith, leb-true 48 d digit.0))) (digits_lack byte ds low h.1)

-- a number is a word
pub decimal_word : (n : ℕ) → n < 2 ^ 64 → IsWord (decimal n)
decimal_word n fits = record {
  some = decimal_nonempty n fits;
  spaceless = digits_lack 32 (decimal n) (omega arith) (digits_decimal own n fits);
  endless = digits_lack 10 (decimal n) (omega arith) (digits_decimal own n fits);
}
