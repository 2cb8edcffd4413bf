-- Names in place of numbers, and back again.
use Rattle.std.proofs.Common.{◌≡◌, ℕ, zero, suc, ◌+◌, ◌<◌, ◌≤◌, ◌==◌, Bool, true, false, List, [], ◌∷◌, length, get_or, map, filter, All, refl, sym, ◌∙◌, arith, inl, inr}
use Rattle.std.specs.List.{list_any, range_with_len, AllByRecursion, IsDistinct}
use Rattle.std.specs.List.Sorted.{IsStrictlyIncreasing}
use Rattle.std.specs.Str.{bytes_eq}
use Rattle.std.proofs.lemmas.Bool.{cases_Bool, cases_order, ne_eqb, eqb-true, eqb-false, or_right, false_from_ne_true, both_ways}
use Rattle.std.proofs.lemmas.List.Elements.{All-head, All-tail}
use Rattle.std.proofs.lemmas.Slice.Eq.{bytes_eq-Decides}
use Rattle.convoy_draft.specs.Checks.{is_among}
use Rattle.convoy_scenario.specs.Numbering.{place, numbers_of}
use Rattle.convoy_scenario.proofs.PlaceLemmas.{place_within, name_at_place}

pub same_bytes : (xs ys : List ℕ) → bytes_eq xs ys ≡ true → xs ≡ ys
same_bytes xs ys e = (bytes_eq-Decides xs ys).0 e

pub itself : (xs : List ℕ) → bytes_eq xs xs ≡ true
itself xs = (bytes_eq-Decides xs xs).1 refl

pub any_at : {X : Type 0} (p : X → Bool) (xs : List X) (k : ℕ) (d : X) → k < length xs → p (get_or xs k d) ≡ true → list_any p xs ≡ true
any_at p [] k d within e = absurd (omega arith)
any_at p (x ∷ xs) zero d within e = rw e refl
any_at p (x ∷ xs) (suc k) d within e = or_right (p x) (list_any p xs) (any_at p xs k d (omega arith) e)

later : {K : Type 0} (e : K → K → Bool) (x : K) (xs : List K) (j : ℕ) (d : K) → AllByRecursion (λ y. e x y ≡ false) xs → j < length xs → e x (get_or xs j d) ≡ false
later e x [] j d all within = absurd (omega arith)
later e x (y ∷ ys) zero d all within = all.0
later e x (y ∷ ys) (suc j) d all within = later e x ys j d all.1 (omega arith)

-- two places of a list with no double are apart
pub apart : {K : Type 0} (e : K → K → Bool) (xs : List K) (i j : ℕ) (d : K) → IsDistinct e xs → i < j → j < length xs → e (get_or xs i d) (get_or xs j d) ≡ false
unfolding IsDistinct
apart e [] i j d distinct less within = absurd (omega arith)
apart e (x ∷ xs) zero zero d distinct less within = absurd (omega arith)
apart e (x ∷ xs) zero (suc j) d distinct less within = later e x xs j d distinct.0 (omega arith)
apart e (x ∷ xs) (suc i) zero d distinct less within = absurd (omega arith)
apart e (x ∷ xs) (suc i) (suc j) d distinct less within = apart e xs i j d distinct.1 (omega arith) (omega arith)

-- two places of one name are one
pub one_place : (names : List (List ℕ)) (i j : ℕ) → IsDistinct bytes_eq names → i < length names → j < length names → get_or names i [] ≡ get_or names j [] → i ≡ j
one_place names i j distinct low high e =
    elim (cases_order i j) [
      | inl same ↦ same
      | inr (inl less) ↦ absurd (both_ways _ (apart bytes_eq names i j [] distinct less high) (rw e (itself (get_or names j []))))
      | inr (inr more) ↦ absurd (both_ways _ (apart bytes_eq names j i [] distinct more low) (rw e (itself (get_or names j []))))
    ]

pub among_at : (names : List (List ℕ)) (g : ℕ) → g < length names → is_among (get_or names g []) names ≡ true
among_at names g within = any_at (bytes_eq (get_or names g [])) names g [] within (itself (get_or names g []))

-- the place of the name of a group
pub place_again : (names : List (List ℕ)) (g : ℕ) → IsDistinct bytes_eq names → g < length names → place (get_or names g []) names ≡ g
place_again names g distinct within =
    let among = among_at names g within in
    one_place names (place (get_or names g []) names) g distinct (place_within (bytes_eq (get_or names g [])) names among) within (name_at_place (get_or names g []) names among)

-- ---- ascending numbers

-- numbers that rise, from this one on
abbrev pub Rises : ℕ → List ℕ → Type 0
Rises a [] = Unit {0}
Rises a (d ∷ ds) = (a ≤ d) × Rises (d + 1) ds

abbrev pub Mem : List ℕ → ℕ → Bool
Mem ds g = list_any (λ h. h == g) ds

pub above : (a g : ℕ) (ds : List ℕ) → Rises a ds → g < a → Mem ds g ≡ false
above a g [] r lt = refl
above a g (d ∷ ds) r lt = rw (ne_eqb d g (λ e. omega (arith, r.0)), above (d + 1) g ds r.1 (omega (arith, r.0))) refl

filter_same : (p q : ℕ → Bool) (a k : ℕ) → ((g : ℕ) → a ≤ g → g < a + k → p g ≡ q g) → filter p (range_with_len a k) ≡ filter q (range_with_len a k)
filter_same p q a zero same = refl
filter_same p q a (suc k) same = rw (same a (omega arith) (omega arith), filter_same p q (a + 1) k (λ g le lt. same g (omega arith) (omega arith))) refl

-- rising numbers are those of a range that are among them
kept : (a k : ℕ) (ds : List ℕ) → Rises a ds → All (λ d. d < a + k) ds → filter (Mem ds) (range_with_len a k) ≡ ds
kept a zero [] r below = refl
kept a zero (d ∷ ds) r below = absurd (omega (arith, r.0, All-head (λ h. h < a + 0) d ds below))
kept a (suc k) [] r below = kept (a + 1) k [] tt (λ i d lt. absurd (omega arith))
kept a (suc k) (d ∷ ds) r below =
    elim (cases_Bool (d == a)) [
      | inl here ↦
          let is : d ≡ a = eqb-true d a here in
          let rest : Rises (a + 1) ds = rw is at r.1 in
          let low : All (λ h. h < (a + 1) + k) ds = λ i e lt. omega (arith, All-tail (λ h. h < a + suc k) d ds below i e lt) in
          let others = filter_same (Mem (d ∷ ds)) (Mem ds) (a + 1) k (λ g le lt. rw (ne_eqb d g (λ e. omega arith)) refl) in
          rw here (rw (others, kept (a + 1) k ds rest low, is) refl)
      | inr other ↦
          let further : Rises (a + 1) (d ∷ ds) = (le_other a d r.0 other, r.1) in
          let low : All (λ h. h < (a + 1) + k) (d ∷ ds) = λ i e lt. omega (arith, below i e lt) in
          rw (other, above (d + 1) a ds r.1 (omega (arith, r.0))) (kept (a + 1) k (d ∷ ds) further low)
    ] where
      le_other : (a d : ℕ) → a ≤ d → (d == a) ≡ false → a + 1 ≤ d
      le_other a d le other = omega (arith, eqb-false d a other)

pub rises : (a : ℕ) (ds : List ℕ) → IsStrictlyIncreasing ds → (0 < length ds → a ≤ get_or ds 0 0) → Rises a ds
rises a [] up first = tt
rises a (d ∷ ds) up first = (first (omega arith), rises (d + 1) ds (λ k within. let e : suc k + 1 ≡ suc (k + 1) = omega arith in rw e at (up (suc k) (omega arith))) (λ some. omega (arith, up 0 (omega arith))))

same_name : (groups : List (List ℕ)) (g d : ℕ) → IsDistinct bytes_eq groups → g < length groups → d < length groups → bytes_eq (get_or groups g []) (get_or groups d []) ≡ (d == g)
same_name groups g d distinct low high =
    elim (cases_Bool (d == g)) [
      | inl same ↦ let is : d ≡ g = eqb-true d g same in rw (same, is) (itself (get_or groups g []))
      | inr other ↦ rw other (false_from_ne_true _ (λ e. eqb-false d g other (sym (one_place groups g d distinct low high (same_bytes _ _ e)))))
    ]

pub among_named : (groups : List (List ℕ)) (g : ℕ) (ds : List ℕ) → IsDistinct bytes_eq groups → g < length groups → All (λ d. d < length groups) ds → is_among (get_or groups g []) (map (λ d. get_or groups d []) ds) ≡ Mem ds g
among_named groups g [] distinct within known = refl
among_named groups g (d ∷ ds) distinct within known =
    rw (same_name groups g d distinct within (All-head (λ h. h < length groups) d ds known), among_named groups g ds distinct within (All-tail (λ h. h < length groups) d ds known)) refl

-- the numbers of the names of ascending numbers
pub numbers_again : (groups : List (List ℕ)) (ds : List ℕ) → IsDistinct bytes_eq groups → All (λ d. d < length groups) ds → IsStrictlyIncreasing ds → numbers_of groups (map (λ d. get_or groups d []) ds) ≡ ds
numbers_again groups ds distinct known up =
    filter_same (λ g. is_among (get_or groups g []) (map (λ d. get_or groups d []) ds)) (Mem ds) 0 (length groups) (λ g le lt. among_named groups g ds distinct (omega arith) known)
    ∙ kept 0 (length groups) ds (rises 0 ds up (λ some. omega arith)) (λ k d lt. omega (arith, known k d lt))
