-- The word for the issue of a message: what is read was written so, and what is written is read again.
use Rattle.std.proofs.Common.{◌≡◌, ℕ, ◌+◌, ◌-◌, ◌<◌, ◌≤◌, ◌==◌, ◌&&◌, true, false, cond, leb, ltb, List, [], ◌∷◌, ◌++◌, length, length-append, take, drop, Option, Some, None, option_map, refl, ap, sym, subst, ◌∙◌, arith, inl, inr, codes, decimal}
use Rattle.std.specs.Fmt.{digits}
use Rattle.std.specs.List.{AllByRecursion, position, position_or_len}
use Rattle.std.specs.Str.Parse.{digits_value}
use Rattle.std.specs.Option.{option_or}
use Rattle.std.specs.Char.{is_ascii_digit}
use Rattle.std.specs.Str.{bytes_eq, all_ascii_digits}
use Rattle.std.proofs.Math.Seq.{take-append_seam, drop-append_seam}
use Rattle.std.proofs.lemmas.Bool.{and_parts, cases_Bool, eqb-true, ltb-true, lt-ltb, ne_eqb, and_right, or_from, leb-true}
use Rattle.std.proofs.lemmas.Bool.Decides.{nat_tests}
use Rattle.std.proofs.lemmas.List.{take-append-drop}
use Rattle.std.proofs.lemmas.List.Folds.{list_any-append}
use Rattle.std.proofs.lemmas.Option.{cond_some, same_Some}
use Rattle.std.proofs.lemmas.Slice.Eq.{bytes_eq-Decides}
use Rattle.convoy_scenario_lines.specs.declared.version.Version.{Version}
use Rattle.convoy_scenario_lines.specs.declared.version.Version.TheVariants.{One, Two, Three}
use Rattle.convoy_lines.specs.Chains.{◌>>=◌}
use Rattle.convoy_lines.specs.Labels.{greatest_number}
use Rattle.convoy_lines.specs.LineLaws.{IsWord}
use Rattle.convoy_lines.specs.Words.{Lacks, is_number, number_of}
use Rattle.convoy_scenario_lines.specs.LineForms.{tick_alone, around_dots, tick_range, issue_in}
use Rattle.convoy_scenario_lines.specs.ScenarioLines.{issue_word}
use Rattle.convoy_lines.proofs.LabelLemmas.{bind_some}
use Rattle.convoy_lines.proofs.Spelling.{number_takes, number_again, decimal_word}

-- ---- rows

-- version 3 has the first and the last tick of a message that may wait, and the others have one tick alone
read : AllByRecursion (λ (row : Version × List ℕ × Option (ℕ × ℕ)). issue_in row.0 row.1 ≡ row.2) ((Three, codes "0..12", Some (0, 12)) ∷ (Three, codes "12", Some (12, 12)) ∷ (Two, codes "0..12", None) ∷ [])
read = (refl, (refl, (refl, tt)))

-- the first is before the last, both are numbers of 32 bits, and two dots stand between them
not_read : AllByRecursion (λ word. issue_in Three word ≡ None) (
    codes "5..3" ∷ codes "0..0" ∷ codes "3.." ∷ codes "..3" ∷ codes "1..2..3" ∷ codes "1.2" ∷ codes "1...2" ∷ codes "1..02" ∷ codes "0..4294967296" ∷ [])
not_read = (refl, (refl, (refl, (refl, (refl, (refl, (refl, (refl, (refl, tt)))))))))

written : AllByRecursion (λ (row : ℕ × ℕ × List ℕ). issue_word row.0 row.1 ≡ row.2) ((7, 0, codes "7") ∷ (7, 5, codes "7..12") ∷ [])
unfolding digits
written = (refl, (refl, tt))

-- ---- what is read was written so

-- what a version can say of how long a message may wait
abbrev pub CanWait : Version → ℕ → Type 0
CanWait One wait = wait ≡ 0
CanWait Two wait = wait ≡ 0
CanWait Three wait = Unit {0}

-- what a word for an issue says: the first tick, and how long the message may wait from then on
pub record SaysIssue (version : Version) (word : List ℕ) (issue : ℕ × ℕ) : Type 0 where
  pub wait : ℕ
  pub last : issue.1 ≡ issue.0 + wait
  pub written : word ≡ issue_word issue.0 wait
  pub can : CanWait version wait

map_some : {A B : Type 0} (f : A → B) (o : Option A) (y : B) → option_map f o ≡ Some y → (x : A) × (o ≡ Some x) × (f x ≡ y)
map_some f None y e = absurd cc
map_some f (Some x) y e = (x, refl, same_Some (f x) y e)

-- both dots stand between the two parts
around_takes : (word : List ℕ) (parts : List ℕ × List ℕ) → around_dots word ≡ Some parts → word ≡ parts.0 ++ (codes ".." ++ parts.1)
around_takes word parts e =
    let a = bind_some (position (λ byte. byte == 46) word) (λ dot. cond (bytes_eq (take 2 (drop dot word)) (codes "..")) (Some (take dot word, drop 2 (drop dot word))) None) parts e in
    let b = cond_some (bytes_eq (take 2 (drop a.0 word)) (codes "..")) (take a.0 word, drop 2 (drop a.0 word)) parts a.2 in
    let dots : take 2 (drop a.0 word) ≡ codes ".." = (bytes_eq-Decides (take 2 (drop a.0 word)) (codes "..")).0 b.0 in
    let rest : drop a.0 word ≡ codes ".." ++ drop 2 (drop a.0 word) = sym (take-append-drop 2 (drop a.0 word)) ∙ ap (λ front. front ++ drop 2 (drop a.0 word)) dots in
    sym (take-append-drop a.0 word) ∙ ap (λ tail. take a.0 word ++ tail) rest ∙ ap (λ (p : List ℕ × List ℕ). p.0 ++ (codes ".." ++ p.1)) b.1

-- the word of a message that may wait
both_written : (at wait : ℕ) → 0 < wait → issue_word at wait ≡ decimal at ++ (codes ".." ++ decimal (at + wait))
both_written at wait some = rw (ne_eqb wait 0 (λ e. omega arith)) refl

alone_takes : (version : Version) (word : List ℕ) (issue : ℕ × ℕ) → CanWait version 0 → tick_alone word ≡ Some issue → SaysIssue version word issue
alone_takes version word issue can e =
    let a = map_some (λ (tick : ℕ). (tick, tick)) (number_of greatest_number word) issue e in
    let number = number_takes greatest_number word a.0 (omega arith) a.1 in
    let first : a.0 ≡ issue.0 = ap (λ (i : ℕ × ℕ). i.0) a.2 in
    let last : a.0 ≡ issue.1 = ap (λ (i : ℕ × ℕ). i.1) a.2 in
    record { wait = 0; last = omega arith; written = number.0 ∙ ap decimal first; can = can }

range_takes : (word : List ℕ) (issue : ℕ × ℕ) → tick_range word ≡ Some issue → SaysIssue Three word issue
range_takes word issue e =
    let a = bind_some (around_dots word) (λ parts. number_of greatest_number parts.0 >>= λ first. number_of greatest_number parts.1 >>= λ last. cond (ltb first last) (Some (first, last)) None) issue e in
    let b = bind_some (number_of greatest_number a.0.0) (λ first. number_of greatest_number a.0.1 >>= λ last. cond (ltb first last) (Some (first, last)) None) issue a.2 in
    let c = bind_some (number_of greatest_number a.0.1) (λ last. cond (ltb b.0 last) (Some (b.0, last)) None) issue b.2 in
    let d = cond_some (ltb b.0 c.0) (b.0, c.0) issue c.2 in
    let below : b.0 < c.0 = ltb-true b.0 c.0 d.0 in
    let first = number_takes greatest_number a.0.0 b.0 (omega arith) b.1 in
    let last = number_takes greatest_number a.0.1 c.0 (omega arith) c.1 in
    let wait : ℕ = c.0 - b.0 in
    let until : c.0 ≡ b.0 + wait = omega arith in
    let written : word ≡ issue_word b.0 wait =
    around_takes word a.0 a.1
    ∙ ap (λ front. front ++ (codes ".." ++ a.0.1)) first.0
    ∙ ap (λ back. decimal b.0 ++ (codes ".." ++ back)) (last.0 ∙ ap decimal until)
    ∙ sym (both_written b.0 wait (omega arith)) in
    subst (SaysIssue Three word) d.1 (record { wait = wait; last = until; written = written; can = tt })

pub issue_takes : (version : Version) (word : List ℕ) (issue : ℕ × ℕ) → issue_in version word ≡ Some issue → SaysIssue version word issue
issue_takes One word issue e = alone_takes One word issue refl e
issue_takes Two word issue e = alone_takes Two word issue refl e
issue_takes Three word issue e = either (tick_alone word) refl e where
  either : (alone : Option (ℕ × ℕ)) → tick_alone word ≡ alone → option_or alone (tick_range word) ≡ Some issue → SaysIssue Three word issue
  either (Some found) is e = alone_takes Three word issue tt (is ∙ e)
  either None is e = range_takes word issue e

-- ---- what is written is read again

-- digits have no dot among them
dot_after : (word : List ℕ) → all_ascii_digits word ≡ true → (rest : List ℕ) → position_or_len (λ byte. byte == 46) (word ++ 46 ∷ rest) ≡ length word
dot_after [] digital rest = refl
dot_after (c ∷ cs) digital rest =
    let p = and_parts (is_ascii_digit c) (all_ascii_digits cs) digital in
    let q = and_parts (leb 48 c) (leb c 57) p.0 in
    let low = leb-true 48 c q.0 in
    let other : (c == 46) ≡ false = ne_eqb c 46 (λ e. omega arith) in
    rw (other, dot_after cs p.1 rest) (omega arith)

first_dot : (word : List ℕ) → all_ascii_digits word ≡ true → (rest : List ℕ) → position (λ byte. byte == 46) (word ++ 46 ∷ rest) ≡ Some (length word)
first_dot word digital rest =
    let all = length-append word (46 ∷ rest) in
    rw (dot_after word digital rest, lt-ltb (length word) (length (word ++ 46 ∷ rest)) (omega arith)) refl

-- a word with a dot in it is no number
dotted : (word rest : List ℕ) → all_ascii_digits (word ++ 46 ∷ rest) ≡ false
dotted [] rest = refl
dotted (c ∷ cs) rest = ap (λ b. is_ascii_digit c && b) (dotted cs rest) ∙ and_right (is_ascii_digit c) false refl

no_number : (most : ℕ) (word rest : List ℕ) → number_of most (word ++ 46 ∷ rest) ≡ None
no_number most word rest = rw (dotted word rest) refl

-- bytes that both parts of a word lack, it lacks
lacks_both : (byte : ℕ) (front back : List ℕ) → Lacks byte front → Lacks byte back → Lacks byte (front ++ back)
lacks_both byte front back first last = list_any-append (λ b. b == byte) front back ∙ or_from _ _ first last

digital : (n : ℕ) → n ≤ greatest_number → all_ascii_digits (decimal n) ≡ true
digital n within =
    let read = number_again greatest_number n (omega arith) within in
    let number = cond_some (is_number (decimal n) && leb (digits_value 10 (decimal n)) greatest_number) (digits_value 10 (decimal n)) n read in
    (and_parts (all_ascii_digits (decimal n)) _ (and_parts (is_number (decimal n)) _ number.0).0).0

around_again : (first : ℕ) (last : List ℕ) → first ≤ greatest_number → around_dots (decimal first ++ (codes ".." ++ last)) ≡ Some (decimal first, last)
around_again first last within =
    let word = decimal first in
    let rest : List ℕ = codes ".." ++ last in
    rw (first_dot word (digital first within) (46 ∷ last), drop-append_seam word rest, take-append_seam word rest) refl

alone_again : (at : ℕ) → at ≤ greatest_number → issue_in Three (decimal at) ≡ Some (at, at)
alone_again at within = rw (number_again greatest_number at (omega arith) within) refl

range_again : (at wait : ℕ) → 0 < wait → at + wait ≤ greatest_number → issue_in Three (decimal at ++ (codes ".." ++ decimal (at + wait))) ≡ Some (at, at + wait)
range_again at wait some within =
    let none = no_number greatest_number (decimal at) (46 ∷ decimal (at + wait)) in
    let around = around_again at (decimal (at + wait)) (omega arith) in
    rw (none, around, number_again greatest_number at (omega arith) (omega arith), number_again greatest_number (at + wait) (omega arith) within, lt-ltb at (at + wait) (omega arith)) refl

pub issue_again : (at wait : ℕ) → at + wait ≤ greatest_number → issue_in Three (issue_word at wait) ≡ Some (at, at + wait)
issue_again at wait within =
    elim (cases_Bool (wait == 0)) [
      | inl none ↦
          let still : wait ≡ 0 = eqb-true wait 0 none in
          let last : at + wait ≡ at = omega arith in
          rw (none, last) (alone_again at (omega arith))
      | inr some ↦
          let above : 0 < wait = grind (arith, nat_tests, some) in
          rw some (range_again at wait above within)
    ]

-- a message that does not wait is read in each version
pub known_again : (version : Version) (at wait : ℕ) → at + wait ≤ greatest_number → CanWait version wait → issue_in version (issue_word at wait) ≡ Some (at, at + wait)
known_again One at wait within none =
    let last : at + 0 ≡ at = omega arith in
    rw (none, last, number_again greatest_number at (omega arith) (omega arith)) refl
known_again Two at wait within none =
    let last : at + 0 ≡ at = omega arith in
    rw (none, last, number_again greatest_number at (omega arith) (omega arith)) refl
known_again Three at wait within any = issue_again at wait within

both_are_word : (at last : ℕ) → at ≤ greatest_number → last ≤ greatest_number → IsWord (decimal at ++ (codes ".." ++ decimal last))
both_are_word at last low high =
    let first = decimal_word at (omega arith) in
    let second = decimal_word last (omega arith) in
    let long = length-append (decimal at) (codes ".." ++ decimal last) in
    record {
      some = omega (arith, first.some, long);
      spaceless = lacks_both 32 (decimal at) (codes ".." ++ decimal last) first.spaceless (lacks_both 32 (codes "..") (decimal last) refl second.spaceless);
      endless = lacks_both 10 (decimal at) (codes ".." ++ decimal last) first.endless (lacks_both 10 (codes "..") (decimal last) refl second.endless);
    }

pub issue_is_word : (at wait : ℕ) → at + wait ≤ greatest_number → IsWord (issue_word at wait)
issue_is_word at wait within =
    elim (wait == 0) as (λ b. IsWord (cond b (decimal at) (decimal at ++ (codes ".." ++ decimal (at + wait))))) [
      | true ↦ decimal_word at (omega arith)
      | false ↦ both_are_word at (at + wait) (omega arith) within
    ]
