-- What is kept of a long line of names.
use Rattle.std.proofs.Common.{◌≡◌, ℕ, zero, suc, ◌≤◌, nat_le, ◌&&◌, Bool, true, false, List, [], ◌∷◌, ◌++◌, length, take, Option, Some, None, refl, ap, sym, subst, ◌∙◌, arith, inl, inr}
use Rattle.std.specs.List.{list_all}
use Rattle.std.specs.Str.{bytes_eq}
use Rattle.std.proofs.lemmas.Bool.{and_parts, and_from, cases_Bool, cases_lt, false≢true, false_from_ne_true, le-leb}
use Rattle.std.proofs.lemmas.Cmp.{nat_list_eq_equiv}
use Rattle.std.proofs.lemmas.List.{take_all, take-append-le, length-take-le}
use Rattle.std.proofs.lemmas.Map.Made.{length-le_from_is_member}
use Rattle.std.proofs.lemmas.Slice.Eq.{bytes_eq-Decides}
use Rattle.convoy_draft.specs.Checks.{is_among, all_differ, is_known_sender, knows}
use Rattle.convoy_draft.specs.Draft.{DraftMessage}
use Rattle.convoy_scenario.proofs.NumberedLemmas.{groups_distinct}
use Rattle.convoy_scenario_lines.specs.Keeping.{first_unknown, alone_or_first, kept_destinations, kept_message}

-- all the names are among the groups
abbrev all_among : List (List ℕ) → List (List ℕ) → Bool
all_among groups names = list_all (λ name. is_among name groups) names

-- ---- the reading of the names, one by one

-- what is kept after these are kept and those are still to come
abbrev pub keeps : List (List ℕ) → List (List ℕ) → List (List ℕ) → List (List ℕ)
keeps groups kept names = alone_or_first (kept ++ names) (first_unknown groups names)

known_next : (groups : List (List ℕ)) (name : List ℕ) (names all : List (List ℕ)) → is_among name groups ≡ true → alone_or_first all (first_unknown groups (name ∷ names)) ≡ alone_or_first all (first_unknown groups names)
known_next groups name names all known = rw known refl

full : (groups kept front back : List (List ℕ)) (found : Option (List ℕ)) → 9 ≤ length kept → alone_or_first (kept ++ front) found ≡ alone_or_first (kept ++ back) found
full groups kept front back None enough = take-append-le 9 kept front enough ∙ sym (take-append-le 9 kept back enough)
full groups kept front back (Some name) enough = refl

-- enough are kept
pub keeps_enough : (groups kept : List (List ℕ)) (name : List ℕ) (names : List (List ℕ)) → is_among name groups ≡ true → 9 ≤ length kept → keeps groups kept (name ∷ names) ≡ keeps groups kept names
keeps_enough groups kept name names known enough =
    known_next groups name names (kept ++ name ∷ names) known ∙ full groups kept (name ∷ names) names (first_unknown groups names) enough

-- the first names, where there are enough
pub first_enough : (kept more all : List (List ℕ)) → 9 ≤ length kept → length kept ≤ 9 → take 9 (kept ++ more) ≡ all → kept ≡ all
first_enough kept more all enough few e = sym (take_all 9 kept few) ∙ sym (take-append-le 9 kept more enough) ∙ e

-- ---- what is kept is known where all is

all_known : (groups names : List (List ℕ)) → all_among groups names ≡ true → first_unknown groups names ≡ None
all_known groups [] known = refl
all_known groups (name ∷ names) known =
    let parts = and_parts (is_among name groups) (all_among groups names) known in
    rw parts.0 (all_known groups names parts.1)

some_unknown : (groups names all : List (List ℕ)) → all_among groups names ≡ false → all_among groups (alone_or_first all (first_unknown groups names)) ≡ false
some_unknown groups [] all known = absurd (false≢true (sym known))
some_unknown groups (name ∷ names) all known =
    elim (cases_Bool (is_among name groups)) [
      | inl here ↦
          let rest : all_among groups names ≡ false = rw here at known in
          rw here (some_unknown groups names all rest)
      | inr other ↦ rw (other, other) refl
    ]

take_known : (groups names : List (List ℕ)) (n : ℕ) → all_among groups names ≡ true → all_among groups (take n names) ≡ true
take_known groups names zero known = refl
take_known groups [] (suc n) known = refl
take_known groups (name ∷ names) (suc n) known =
    let parts = and_parts (is_among name groups) (all_among groups names) known in
    and_from (is_among name groups) (all_among groups (take n names)) parts.0 (take_known groups names n parts.1)

-- where all the names are known, the first ones are kept
kept_first : (groups to : List (List ℕ)) → all_among groups to ≡ true → kept_destinations groups to ≡ take 9 to
kept_first groups to known = ap (alone_or_first to) (all_known groups to known)

kept_known : (groups to : List (List ℕ)) → all_among groups (kept_destinations groups to) ≡ all_among groups to
kept_known groups to =
    elim (cases_Bool (all_among groups to)) [
      | inl known ↦ ap (all_among groups) (kept_first groups to known) ∙ take_known groups to 9 known ∙ sym known
      | inr other ↦ some_unknown groups to to other ∙ sym other
    ]

pub knows_kept : (groups places : List (List ℕ)) (message : DraftMessage) → knows groups places (kept_message groups message) ≡ knows groups places message
knows_kept groups places message = ap (λ b. is_known_sender groups places message.sender && b) (kept_known groups message.to)

-- ---- names that differ, among few groups, are few

among_one : (groups names : List (List ℕ)) (q : List ℕ) → all_among groups names ≡ true → is_among q names ≡ true → is_among q groups ≡ true
among_one groups [] q known found = absurd (false≢true found)
among_one groups (name ∷ names) q known found =
    let parts = and_parts (is_among name groups) (all_among groups names) known in
    elim (cases_Bool (bytes_eq q name)) [
      | inl here ↦ subst (λ x. is_among x groups ≡ true) (sym ((bytes_eq-Decides q name).0 here)) parts.0
      | inr other ↦ let later : is_among q names ≡ true = rw other at found in among_one groups names q parts.1 later
    ]

few_differ : (groups names : List (List ℕ)) → all_among groups names ≡ true → all_differ names ≡ true → length names ≤ length groups
few_differ groups names known differ =
    length-le_from_is_member nat_list_eq_equiv names groups (groups_distinct names differ) (λ q. among_one groups names q known)

differ_take : (groups to : List (List ℕ)) → length groups ≤ 8 → all_among groups to ≡ true → all_differ (take 9 to) ≡ all_differ to
differ_take groups to few known =
    elim (cases_lt 9 (length to)) [
      | inl long ↦
          let whole : all_differ to ≡ false = false_from_ne_true (all_differ to) (λ e. let most = few_differ groups to known e in absurd (omega arith)) in
          let nine : length (take 9 to) ≡ 9 = length-take-le 9 to (omega arith) in
          let front : all_differ (take 9 to) ≡ false = false_from_ne_true (all_differ (take 9 to)) (λ e. let most = few_differ groups (take 9 to) (take_known groups to 9 known) e in absurd (omega arith)) in
          front ∙ sym whole
      | inr short ↦ ap all_differ (take_all 9 to short)
    ]

pub differ_kept : (groups places : List (List ℕ)) (message : DraftMessage) → length groups ≤ 8 → knows groups places message ≡ true → all_differ (kept_destinations groups message.to) ≡ all_differ message.to
differ_kept groups places message few known =
    let to = (and_parts _ (all_among groups message.to) known).1 in
    ap all_differ (kept_first groups message.to to) ∙ differ_take groups message.to few to

pub kept_same : (groups places : List (List ℕ)) (message : DraftMessage) → length groups ≤ 8 → knows groups places message ≡ true → all_differ message.to ≡ true → kept_message groups message ≡ message
kept_same groups places message few known differ =
    let to = (and_parts _ (all_among groups message.to) known).1 in
    let most = few_differ groups message.to to differ in
    let same : kept_destinations groups message.to ≡ message.to = kept_first groups message.to to ∙ take_all 9 message.to (omega arith) in
    let sent_to : List (List ℕ) → DraftMessage = λ names. record { name = message.name; sender = message.sender; to = names; at = message.at; until = message.until } in
    ap sent_to same

-- some name is kept of some names
one_at_least : (name : List ℕ) (names : List (List ℕ)) → nat_le 1 (length (name ∷ names)) ≡ true
one_at_least name names = le-leb 1 (length (name ∷ names)) (omega arith)

some_of : (name : List ℕ) (names : List (List ℕ)) (found : Option (List ℕ)) → nat_le 1 (length (alone_or_first (name ∷ names) found)) ≡ true
some_of name names None = one_at_least name (take 8 names)
some_of name names (Some other) = one_at_least other []

pub some_kept : (groups to : List (List ℕ)) → nat_le 1 (length (kept_destinations groups to)) ≡ nat_le 1 (length to)
some_kept groups [] = refl
some_kept groups (name ∷ names) = some_of name names (first_unknown groups (name ∷ names)) ∙ sym (one_at_least name names)
