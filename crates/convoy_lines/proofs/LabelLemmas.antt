-- The words after a label, and the number of a line: what is read was written so, and what is written is read again.
use Rattle.std.proofs.Common.{◌≡◌, ℕ, ◌≤◌, ◌==◌, ◌&&◌, not, true, cond, List, [], ◌∷◌, length, Option, Some, None, refl, ap, ◌∙◌, arith, decimal}
use Rattle.std.specs.Str.{bytes_eq}
use Rattle.std.proofs.lemmas.Bool.{and_parts, and_from, eqb-true, ne_eqb}
use Rattle.std.proofs.lemmas.List.{nil_from_length}
use Rattle.std.proofs.lemmas.Option.{cond_some, same_Some}
use Rattle.std.proofs.lemmas.Slice.Eq.{bytes_eq-Decides}
use Rattle.convoy_lines.specs.Labels.{greatest_number, is_spaced, words_after, number_in}
use Rattle.convoy_lines.specs.LineLaws.{IsWord}
use Rattle.convoy_lines.specs.Chains.{◌>>=◌}
use Rattle.convoy_lines.specs.Texts.{line_of}
use Rattle.convoy_lines.specs.Words.{words_of, next_word, number_of}
use Rattle.convoy_lines.proofs.Spelling.{AreWords, words_again, line_takes, number_again, number_takes, decimal_word}

pub bind_some : {A B : Type 0} (o : Option A) (f : A → Option B) (y : B) → (o >>= f) ≡ Some y → (x : A) × (o ≡ Some x) × (f x ≡ Some y)
bind_some None f y e = absurd cc
bind_some (Some x) f y e = (x, refl, e)

pub next_takes : (words : List (List ℕ)) (next : List ℕ × List (List ℕ)) → next_word words ≡ Some next → words ≡ next.0 ∷ next.1
next_takes [] next e = absurd cc
next_takes (word ∷ words) next e = ap (λ (n : List ℕ × List (List ℕ)). n.0 ∷ n.1) (same_Some (word, words) next e)

pub same_bytes : (xs ys : List ℕ) → bytes_eq xs ys ≡ true → xs ≡ ys
same_bytes xs ys e = (bytes_eq-Decides xs ys).0 e

pub itself : (xs : List ℕ) → bytes_eq xs xs ≡ true
itself xs = (bytes_eq-Decides xs xs).1 refl

-- ---- words after a label

pub label_takes : (label line : List ℕ) (words : List (List ℕ)) → words_after label line ≡ Some words → line ≡ line_of label words
label_takes label line words e =
    let a = bind_some (next_word (words_of line)) (λ next. cond (bytes_eq next.0 label && is_spaced (words_of line)) (Some next.1) None) words e in
    let g = cond_some (bytes_eq a.0.0 label && is_spaced (words_of line)) a.0.1 words a.2 in
    let same = same_bytes a.0.0 label (and_parts (bytes_eq a.0.0 label) (is_spaced (words_of line)) g.0).0 in
    line_takes line a.0.0 a.0.1 (next_takes (words_of line) a.0 a.1) ∙ ap (λ w. line_of w a.0.1) same ∙ ap (line_of label) g.1

spaced_words : (words : List (List ℕ)) → AreWords words → is_spaced words ≡ true
spaced_words [] are = refl
spaced_words (w ∷ ws) are = and_from (not (length w == 0)) _ (rw (ne_eqb (length w) 0 (λ e. omega (arith, are.0.some))) refl) (spaced_words ws are.1)

pub label_again : (label : List ℕ) (words : List (List ℕ)) → IsWord label → AreWords words → words_after label (line_of label words) ≡ Some words
label_again label words is are =
    rw (words_again label words is.spaceless are, itself label, spaced_words (label ∷ words) (is, are)) refl

-- ---- a number

pub number_line_takes : (label line : List ℕ) (n : ℕ) → number_in label line ≡ Some n → (line ≡ line_of label (decimal n ∷ [])) × (n ≤ greatest_number)
number_line_takes label line n e =
    let a = bind_some (words_after label line) (λ words. next_word words >>= λ word. number_of greatest_number word.0 >>= λ number. cond (length word.1 == 0) (Some number) None) n e in
    let b = bind_some (next_word a.0) (λ word. number_of greatest_number word.0 >>= λ number. cond (length word.1 == 0) (Some number) None) n a.2 in
    let c = bind_some (number_of greatest_number b.0.0) (λ number. cond (length b.0.1 == 0) (Some number) None) n b.2 in
    let g = cond_some (length b.0.1 == 0) c.0 n c.2 in
    let last : b.0.1 ≡ [] = nil_from_length b.0.1 (eqb-true _ _ g.0) in
    let number = number_takes greatest_number b.0.0 c.0 (omega arith) c.1 in
    let words : a.0 ≡ decimal n ∷ [] = next_takes a.0 b.0 b.1 ∙ ap (λ ws. b.0.0 ∷ ws) last ∙ ap (λ w. w ∷ []) (number.0 ∙ ap decimal g.1) in
    (label_takes label line a.0 a.1 ∙ ap (line_of label) words, rw (← g.1) number.1)

pub number_line_again : (label : List ℕ) (n : ℕ) → IsWord label → n ≤ greatest_number → number_in label (line_of label (decimal n ∷ [])) ≡ Some n
number_line_again label n is within =
    rw (label_again label (decimal n ∷ []) is (decimal_word n (omega arith), tt), number_again greatest_number n (omega arith) within) refl
