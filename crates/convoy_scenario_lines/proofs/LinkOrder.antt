-- Links that stand in order, line by line.
use Rattle.std.proofs.Common.{◌≡◌, ℕ, ◌+◌, ◌&&◌, true, false, not, List, [], ◌∷◌, Option, Some, None, All, refl, inl, inr}
use Rattle.std.specs.List.{AllByRecursion}
use Rattle.std.proofs.lemmas.Bool.{and_parts, and_from, cases_Bool, not-true}
use Rattle.std.proofs.lemmas.List.Elements.{All-head, All-tail}
use Rattle.convoy_scenario.specs.Scenario.{Link}
use Rattle.convoy_scenario.specs.WellFormed.{is_whole, follows, ascend_after, IsLink}
use Rattle.convoy_scenario_lines.specs.LineReading.{first_misplaced}

pub placed : (delay : ℕ) (before : Option Link) (number : ℕ) (links : List Link) → first_misplaced delay before number links ≡ None → (ascend_after before links ≡ true) × AllByRecursion (λ l. is_whole delay l ≡ false) links
placed delay before number [] e = (refl, tt)
placed delay before number (link ∷ links) e =
    elim (cases_Bool (follows before link && not (is_whole delay link))) [
      | inl fine ↦
          let p = and_parts (follows before link) (not (is_whole delay link)) fine in
          let rest : first_misplaced delay (Some link) (number + 1) links ≡ None = rw fine at e in
          let more = placed delay (Some link) (number + 1) links rest in
          (and_from _ _ p.0 more.0, (not-true (is_whole delay link) p.1, more.1))
      | inr other ↦ let found : Some number ≡ None = rw other at e in absurd cc
    ]

pub none_misplaced : (groups places delay : ℕ) (before : Option Link) (number : ℕ) (links : List Link) → ascend_after before links ≡ true → All (IsLink groups places delay) links → first_misplaced delay before number links ≡ None
none_misplaced groups places delay before number [] up are = refl
none_misplaced groups places delay before number (link ∷ links) up are =
    let p = and_parts (follows before link) (ascend_after (Some link) links) up in
    let part : is_whole delay link ≡ false = not-true (is_whole delay link) (All-head (IsLink groups places delay) link links are).partial in
    rw (p.0, part) (none_misplaced groups places delay (Some link) (number + 1) links p.1 (All-tail (IsLink groups places delay) link links are))
