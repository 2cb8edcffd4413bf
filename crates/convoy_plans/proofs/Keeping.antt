-- The test for a placement holds of placements, and of nothing else.
use Rattle.std.proofs.Common.{◌≡◌, ◌≢◌, ◌⊎◌, ℕ, ◌<◌, ◌≤◌, ◌==◌, nat_lt, Bool, true, false, ◌&&◌, ◌||◌, not, List, [], ◌∷◌, length, get_or, inl, inr, refl, sym, ap, subst, ◌∙◌, arith}
use Rattle.std.specs.List.{list_all, list_any, range_with_len}
use Rattle.std.proofs.lemmas.Bool.{and_from, and_parts, both_ways, eq-eqb, eqb-true, false≢true, ltb-false, ltb-true, not-true, or_cases}
use Rattle.std.proofs.lemmas.List.Folds.{list_any_at}
use Rattle.std.proofs.lemmas.List.FromFn.{get_or-range_with_len, length-range_with_len}
use Rattle.std.proofs.lemmas.List.Sums.{AllPass-from_list_all, list_all-from_AllPass}
use Rattle.convoy_plans.specs.Kept.{are_spread, is_alone, is_at_home, is_kept}
use Rattle.convoy_plans.specs.Placements.{IsPlacement, site_at}
use Rattle.convoy_plans.specs.Plans.{Plan, has, is_apart, sites_of}

-- what passes of all numbers passes of one of them
one_of : (p : ℕ → Bool) (g : ℕ) (ns : List ℕ) → list_all p ns ≡ true → has g ns ≡ true → p g ≡ true
one_of p g [] all some = absurd (false≢true some)
one_of p g (n ∷ ns) all some =
    let parts = and_parts (p n) (list_all p ns) all in
    elim (or_cases (n == g) (has g ns) some) [
      | inl same ↦ subst (λ m. p m ≡ true) (eqb-true n g same) parts.0
      | inr later ↦ one_of p g ns parts.1 later
    ]

-- both groups are in one list
abbrev has_both : ℕ → ℕ → List ℕ → Bool
has_both g h groups = has g groups && has h groups

-- a list that has both, and of which no two groups are at one site
spread_in : (placement : List ℕ) (g h : ℕ) (lists : List (List ℕ)) → list_all (are_spread placement) lists ≡ true → list_any (has_both g h) lists ≡ true
    → (groups : List ℕ) × (are_spread placement groups ≡ true) × (has_both g h groups ≡ true)
spread_in placement g h [] all some = absurd (false≢true some)
spread_in placement g h (groups ∷ lists) all some =
    let parts = and_parts (are_spread placement groups) (list_all (are_spread placement) lists) all in
    elim (or_cases (has_both g h groups) (list_any (has_both g h) lists) some) [
      | inl here ↦ (groups, parts.0, here)
      | inr later ↦ spread_in placement g h lists parts.1 later
    ]

module _ (plan : Plan) (placement : List ℕ) where
  abbrev count : ℕ
  count = length plan.housed

  abbrev differ : ℕ → ℕ → Bool
  differ g h = g == h || not (site_at placement g == site_at placement h)

  pub kept_is : is_kept plan placement ≡ true → IsPlacement plan placement
  kept_is kept =
      let most = and_parts ((length placement == count) && list_all (is_at_home plan placement) (range_with_len 0 count)) (list_all (are_spread placement) plan.apart) kept in
      let start = and_parts (length placement == count) (list_all (is_at_home plan placement) (range_with_len 0 count)) most.0 in
      record {
        whole = eqb-true (length placement) count start.0;
        housed = λ g. housed_at g start.1 (nat_lt g count) refl;
        apart = λ g h is. apart_at g h most.1 is;
      } where
        housed_at : (g : ℕ) → list_all (is_at_home plan placement) (range_with_len 0 count) ≡ true → (b : Bool) → nat_lt g count ≡ b
            → (is_at_home plan placement g ≡ true) ⊎ (count ≤ g)
        housed_at g all true here =
            let within = ltb-true g count here in
            let at = get_or-range_with_len 0 count g 0 within in
            inl
            (subst (λ n. is_at_home plan placement n ≡ true) (at ∙ omega arith)
            (AllPass-from_list_all (is_at_home plan placement) (range_with_len 0 count) all g 0 (subst (λ n. g < n) (sym (length-range_with_len 0 count)) within)))
        housed_at g all false past = inr (ltb-false g count past)

        apart_at : (g h : ℕ) → list_all (are_spread placement) plan.apart ≡ true → is_apart plan g h ≡ true → site_at placement g ≢ site_at placement h
        apart_at g h all is =
            let parts = and_parts (not (g == h)) (list_any (has_both g h) plan.apart) is in
            let found = spread_in placement g h plan.apart all parts.1 in
            let both = and_parts (has g found.0) (has h found.0) found.2 in
            let alone = one_of (is_alone placement found.0) g found.0 found.1 both.0 in
            let two = one_of (differ g) h found.0 alone both.1 in
            λ same. elim (or_cases (g == h) (not (site_at placement g == site_at placement h)) two) [
              | inl one ↦ both_ways _ (not-true (g == h) parts.0) one
              | inr other ↦ both_ways _ (not-true (site_at placement g == site_at placement h) other) (eq-eqb _ _ same)
            ]

  module _ (is : IsPlacement plan placement) where
    differ_of : (g h : ℕ) (i : ℕ) (d : List ℕ) → i < length plan.apart → has_both g h (get_or plan.apart i d) ≡ true → differ g h ≡ true
    differ_of g h i d within both = by_group (g == h) refl where
      by_site : (b : Bool) → (site_at placement g == site_at placement h) ≡ b → (g == h) ≡ false → not b ≡ true
      by_site true same other =
          absurd
          (is.apart g h (and_from (not (g == h)) (list_any (has_both g h) plan.apart) (ap not other) (list_any_at (has_both g h) plan.apart i d within both))
          (eqb-true _ _ same))
      by_site false same other = refl

      by_group : (b : Bool) → (g == h) ≡ b → (b || not (site_at placement g == site_at placement h)) ≡ true
      by_group true one = refl
      by_group false other = by_site (site_at placement g == site_at placement h) refl other

    has_own : (groups : List ℕ) (j e : ℕ) → j < length groups → has (get_or groups j e) groups ≡ true
    has_own groups j e within = list_any_at (λ n. n == get_or groups j e) groups j e within (eq-eqb (get_or groups j e) (get_or groups j e) refl)

    spread_of : (i : ℕ) (d : List ℕ) → i < length plan.apart → are_spread placement (get_or plan.apart i d) ≡ true
    spread_of i d within =
        let groups : List ℕ = get_or plan.apart i d in
        list_all-from_AllPass (is_alone placement groups) groups
        (λ j e k.
        list_all-from_AllPass (differ (get_or groups j e)) groups
        (λ j2 e2 k2.
        differ_of (get_or groups j e) (get_or groups j2 e2) i d within
        (and_from (has (get_or groups j e) groups) (has (get_or groups j2 e2) groups) (has_own groups j e k) (has_own groups j2 e2 k2))))

    home_of : (i d : ℕ) → i < length (range_with_len 0 count) → is_at_home plan placement (get_or (range_with_len 0 count) i d) ≡ true
    home_of i d l =
        let within : i < count = subst (λ n. i < n) (length-range_with_len 0 count) l in
        let at = get_or-range_with_len 0 count i d within in
        subst (λ n. is_at_home plan placement n ≡ true) (sym (at ∙ omega arith)) (elim (is.housed i) [ inl home ↦ home | inr past ↦ absurd (omega (arith, past, within)) ])

    pub is_kept_of : is_kept plan placement ≡ true
    is_kept_of =
        and_from ((length placement == count) && list_all (is_at_home plan placement) (range_with_len 0 count)) (list_all (are_spread placement) plan.apart)
        (and_from (length placement == count) (list_all (is_at_home plan placement) (range_with_len 0 count)) (eq-eqb (length placement) count is.whole)
        (list_all-from_AllPass (is_at_home plan placement) (range_with_len 0 count) home_of))
        (list_all-from_AllPass (are_spread placement) plan.apart spread_of)
