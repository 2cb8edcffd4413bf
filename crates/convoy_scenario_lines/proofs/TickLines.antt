-- The line `tick`: what is read was written so, and what is written is read again.
use Rattle.std.proofs.Common.{◌≡◌, ℕ, ◌*◌, ◌/◌, ◌%◌, ◌≤◌, ◌==◌, ◌&&◌, true, cond, nat_le, List, [], ◌∷◌, length, Option, Some, None, refl, ap, sym, ◌∙◌, arith, inl, inr, codes, decimal}
use Rattle.std.specs.Str.{bytes_eq}
use Rattle.std.proofs.lemmas.Bool.{and_parts, cases_Bool, eqb-true, le-leb, leb-true}
use Rattle.std.proofs.lemmas.Bool.Decides.{nat_tests}
use Rattle.std.proofs.lemmas.List.{nil_from_length}
use Rattle.std.proofs.lemmas.Option.{cond_some, same_Some}
use Rattle.std.proofs.lemmas.Slice.Eq.{bytes_eq-Decides}
use Rattle.convoy_draft.specs.declared.duration.TimeUnit.{TimeUnit}
use Rattle.convoy_draft.specs.declared.duration.TimeUnit.TheVariants.{Seconds, Milliseconds, Microseconds, Nanoseconds}
use Rattle.convoy_draft.specs.declared.duration.TheConstants.{LONGEST_DURATION, MOST_UNITS}
use Rattle.convoy_draft.specs.Durations.{count_of, unit_length, unit_named, unit_of, unit_word, within_longest}
use Rattle.convoy_lines.specs.Chains.{◌>>=◌}
use Rattle.convoy_lines.specs.Labels.{greatest_number, words_after}
use Rattle.convoy_lines.specs.LineLaws.{IsWord}
use Rattle.convoy_lines.specs.Texts.{line_of}
use Rattle.convoy_lines.specs.Words.{next_word, number_of}
use Rattle.convoy_scenario_lines.specs.LineForms.{tick_in}
use Rattle.convoy_scenario_lines.specs.ScenarioLines.{tick_line}
use Rattle.convoy_lines.proofs.LabelLemmas.{bind_some, label_takes, label_again}
use Rattle.convoy_lines.proofs.Spelling.{AreWords, number_takes, number_again, decimal_word, known_word}

-- ---- units

pub unit_is_word : (unit : TimeUnit) → IsWord (unit_word unit)
unit_is_word Seconds = record { some = omega arith; spaceless = refl; endless = refl }
unit_is_word Milliseconds = record { some = omega arith; spaceless = refl; endless = refl }
unit_is_word Microseconds = record { some = omega arith; spaceless = refl; endless = refl }
unit_is_word Nanoseconds = record { some = omega arith; spaceless = refl; endless = refl }

named_again : (unit : TimeUnit) → unit_named (unit_word unit) ≡ Some unit
named_again Seconds = refl
named_again Milliseconds = refl
named_again Microseconds = refl
named_again Nanoseconds = refl

times_over : (unit : TimeUnit) (n : ℕ) → n * unit_length unit / unit_length unit ≡ n
times_over Seconds n = omega arith
times_over Milliseconds n = omega arith
times_over Microseconds n = omega arith
times_over Nanoseconds n = omega arith

-- a duration is its count of its unit
count_again : (tick : ℕ) → count_of tick * unit_length (unit_of tick) ≡ tick
count_again tick =
    elim (cases_Bool (tick % 1000000000 == 0)) [
      | inl s ↦ let whole = eqb-true (tick % 1000000000) 0 s in rw s (omega arith)
      | inr no-s ↦ elim (cases_Bool (tick % 1000000 == 0)) [
        | inl s ↦ let whole = eqb-true (tick % 1000000) 0 s in rw (no-s, s) (omega arith)
        | inr no-m ↦ elim (cases_Bool (tick % 1000 == 0)) [
          | inl s ↦ let whole = eqb-true (tick % 1000) 0 s in rw (no-s, no-m, s) (omega arith)
          | inr no-u ↦ rw (no-s, no-m, no-u) (omega arith)
        ]
      ]
    ]

nothing : (unit : TimeUnit) → 0 * unit_length unit ≡ 0
nothing Seconds = omega arith
nothing Milliseconds = omega arith
nothing Microseconds = omega arith
nothing Nanoseconds = omega arith

some_counted : (tick : ℕ) → 1 ≤ tick → 1 ≤ count_of tick
some_counted tick some =
    let whole = count_again tick in
    elim (cases_Bool (nat_le 1 (count_of tick))) [
      | inl more ↦ leb-true 1 (count_of tick) more
      | inr none ↦
          let zero : count_of tick ≡ 0 = grind (arith, nat_tests, none) in
          let gone : tick ≡ 0 = sym whole ∙ ap (λ n. n * unit_length (unit_of tick)) zero ∙ nothing (unit_of tick) in
          absurd (omega arith)
    ]

-- ---- the line

-- the length of these words, if no word is left
abbrev tick_at_end : List ℕ → List (List ℕ) → ℕ → ℕ → Option ℕ
tick_at_end unit left number long = cond (nat_le 1 number && bytes_eq unit (unit_word (unit_of long)) && length left == 0) (Some long) None

abbrev words_tick : List (List ℕ) → Option ℕ
words_tick words = next_word words >>= λ count. next_word count.1 >>= λ unit. number_of greatest_number count.0 >>= λ number. unit_named unit.0 >>= λ named.
    within_longest (number * unit_length named) >>= tick_at_end unit.0 unit.1 number

tick_said : (words : List (List ℕ)) (tick : ℕ) → words_tick words ≡ Some tick → words ≡ decimal (count_of tick) ∷ unit_word (unit_of tick) ∷ []
tick_said [] tick e = absurd cc
tick_said (count ∷ []) tick e = absurd cc
tick_said (count ∷ unit ∷ left) tick e =
    let a = bind_some (number_of greatest_number count) (λ number. unit_named unit >>= λ named. within_longest (number * unit_length named) >>= tick_at_end unit left number) tick e in
    let b = bind_some (unit_named unit) (λ named. within_longest (a.0 * unit_length named) >>= tick_at_end unit left a.0) tick a.2 in
    let c = bind_some (within_longest (a.0 * unit_length b.0)) (tick_at_end unit left a.0) tick b.2 in
    let d = cond_some (nat_le 1 a.0 && bytes_eq unit (unit_word (unit_of c.0)) && length left == 0) c.0 tick c.2 in
    let parts = and_parts (nat_le 1 a.0 && bytes_eq unit (unit_word (unit_of c.0))) (length left == 0) d.0 in
    let last : left ≡ [] = nil_from_length left (eqb-true _ _ parts.1) in
    let number = number_takes greatest_number count a.0 (omega arith) a.1 in
    let long = cond_some (nat_le (a.0 * unit_length b.0) LONGEST_DURATION) (a.0 * unit_length b.0) c.0 c.1 in
    let is : a.0 * unit_length b.0 ≡ tick = long.1 ∙ d.1 in
    let greatest : unit ≡ unit_word (unit_of tick) = (bytes_eq-Decides unit (unit_word (unit_of c.0))).0 (and_parts (nat_le 1 a.0) _ parts.0).1 ∙ ap (λ t. unit_word (unit_of t)) d.1 in
    let same : b.0 ≡ unit_of tick = same_Some b.0 (unit_of tick) (sym b.1 ∙ ap unit_named greatest ∙ named_again (unit_of tick)) in
    let counted : a.0 ≡ count_of tick =
    sym (times_over (unit_of tick) a.0) ∙ ap (λ u. a.0 * unit_length u / unit_length (unit_of tick)) (sym same) ∙ ap (λ t. t / unit_length (unit_of tick)) is in
    ap (λ w. w ∷ unit ∷ left) (number.0 ∙ ap decimal counted) ∙ ap (λ w. decimal (count_of tick) ∷ w ∷ left) greatest ∙ ap (λ ws. decimal (count_of tick) ∷ unit_word (unit_of tick) ∷ ws) last

pub tick_takes : (line : List ℕ) (tick : ℕ) → tick_in line ≡ Some tick → line ≡ tick_line tick
tick_takes line tick e =
    let a = bind_some (words_after (codes "tick") line) words_tick tick e in
    label_takes (codes "tick") line a.0 a.1 ∙ ap (line_of (codes "tick")) (tick_said a.0 tick a.2)

pub tick_words : (tick : ℕ) → count_of tick ≤ MOST_UNITS → AreWords (decimal (count_of tick) ∷ unit_word (unit_of tick) ∷ [])
tick_words tick few = (decimal_word (count_of tick) (omega (arith, few)), (unit_is_word (unit_of tick), tt))

pub tick_again : (tick : ℕ) → 1 ≤ tick → tick ≤ LONGEST_DURATION → count_of tick ≤ MOST_UNITS → tick_in (tick_line tick) ≡ Some tick
tick_again tick some short few =
    let words = label_again (codes "tick") (decimal (count_of tick) ∷ unit_word (unit_of tick) ∷ []) (known_word (codes "tick") refl) (tick_words tick few) in
    let within : within_longest tick ≡ Some tick = rw (le-leb tick LONGEST_DURATION short) refl in
    let greatest : bytes_eq (unit_word (unit_of tick)) (unit_word (unit_of tick)) ≡ true = (bytes_eq-Decides (unit_word (unit_of tick)) (unit_word (unit_of tick))).1 refl in
    let one : nat_le 1 (count_of tick) ≡ true = le-leb 1 (count_of tick) (some_counted tick some) in
    rw (words, number_again greatest_number (count_of tick) (omega arith) (omega (arith, few)), named_again (unit_of tick), count_again tick, within, one, greatest) refl
