-- Sites of groups, one more at a time.
use Rattle.std.proofs.Common.{◌≡◌, ℕ, ◌+◌, ◌<◌, ◌≤◌, ◌==◌, Bool, true, false, cond, List, length, map, get_or, nat_lt, replicate, set, Option, Some, None, is_none, refl, sym, ap, subst, ◌∙◌, arith}
use Rattle.std.specs.List.{slice_get}
use Rattle.std.proofs.lemmas.Bool.{both_ways, eq-eqb, eqb-true, ltb-false, ltb-true}
use Rattle.std.proofs.lemmas.List.{ext_get_or, get_or-map, get_or-replicate, get_or-set_other, get_or-set_same, get_or_past, length-replicate, length-set}
use Rattle.std.proofs.lemmas.List.Sums.{sum_by-set, sum_by_more_le}
use Rattle.std.proofs.lemmas.Option.{get_or_from_slice_get, none-some, same_Some, slice_get_within}
use Rattle.convoy_plans.specs.Placements.{Completes, site_at}
use Rattle.convoy_best_plan.specs.Standings.{left_of}

-- one for each group that has no site
flag : Option ℕ → ℕ
flag site = cond (is_none site) 1 0

some_of : (site : Option ℕ) → cond (is_none site) 1 0 ≤ 0 → is_none site ≡ false
some_of None few = absurd (omega (arith, few))
some_of (Some site) few = refl

-- where none is left each group has a site
pub none_left : (sites : List (Option ℕ)) (g : ℕ) (d : Option ℕ) → left_of sites ≡ 0 → g < length sites → is_none (get_or sites g d) ≡ false
none_left sites g d none within =
    let most = sum_by_more_le (λ (site : Option ℕ). cond (is_none site) 1 0) sites g d within in
    some_of (get_or sites g d) (omega (arith, none, most))

-- a group that gets its site is left no more
pub one_less : (sites : List (Option ℕ)) (g site : ℕ) → slice_get sites g ≡ Some None → left_of (set sites g (Some site)) + 1 ≡ left_of sites
one_less sites g site here =
    let within = slice_get_within sites g None here in
    let at = get_or_from_slice_get sites g None None here in
    let sums = sum_by-set (λ (s : Option ℕ). cond (is_none s) 1 0) sites g (Some site) None within in
    let one = ap {B = ℕ} (λ (s : Option ℕ). cond (is_none s) 1 0) at in
    omega (arith, sums, one)

-- the same of a copy of these sites
pub one_less_of : (sites made more : List (Option ℕ)) (g site : ℕ) → slice_get sites g ≡ Some None → more ≡ made → made ≡ set sites g (Some site)
    → left_of more + 1 ≡ left_of sites
one_less_of sites made more g site here same is = ap (λ (ss : List (Option ℕ)). left_of ss + 1) (same ∙ is) ∙ one_less sites g site here

-- they stay as many
pub as_long : (sites made more : List (Option ℕ)) (g site n : ℕ) → more ≡ made → made ≡ set sites g (Some site) → length sites ≡ n → length more ≡ n
as_long sites made more g site n same is long = ap length (same ∙ is) ∙ length-set sites g (Some site) ∙ long

-- a placement with these sites, and with this one of one more group, has all of them
pub completes_more : (placement : List ℕ) (sites : List (Option ℕ)) (g site : ℕ) → g < length sites → Completes placement sites → site_at placement g ≡ site
    → Completes placement (set sites g (Some site))
completes_more placement sites g site within all here h other is = by_test (h == g) refl where
  apart : (h == g) ≡ false → h ≡ g → ⊥
  apart is_not e = both_ways _ is_not (eq-eqb h g e)

  by_test : (b : Bool) → (h == g) ≡ b → site_at placement h ≡ other
  by_test true same =
      let e = eqb-true h g same in
      let there : get_or (set sites g (Some site)) h None ≡ Some site =
      subst (λ k. get_or (set sites g (Some site)) k None ≡ Some site) (sym e) (get_or-set_same sites g (Some site) None within) in
      ap (site_at placement) e ∙ here ∙ same_Some site other (sym there ∙ is)
  by_test false differ = all h other (sym (get_or-set_other sites g h (Some site) None (apart differ)) ∙ is)

-- the sites of a placement are those of one placement alone
pub one_placement : (placement other : List ℕ) → Completes other (map (λ site. Some site) placement) → length other ≡ length placement → other ≡ placement
one_placement placement other all long =
    ext_get_or 0 other placement long
    (λ i l. all i (get_or placement i 0) (get_or-map (λ (site : ℕ). Some site) placement i 0 None (omega (arith, l, long))))

-- where nothing has a site, each placement completes that
pub completes_none : (placement : List ℕ) (n : ℕ) → Completes placement (replicate n None)
completes_none placement n g s is = absurd (by_place (nat_lt g n) refl) where
  by_place : (b : Bool) → nat_lt g n ≡ b → ⊥
  by_place true here = let none = get_or-replicate {A = Option ℕ} n g None None (ltb-true g n here) in none-some s (sym none ∙ is)
  by_place false past =
      let none = get_or_past (replicate n None) g None (omega (arith, length-replicate {A = Option ℕ} n None, ltb-false g n past)) in
      none-some s (sym none ∙ is)
