-- All placements that have some sites are passed once those with one more site of a group are.
use Rattle.std.proofs.Common.{◌≡◌, ◌↔◌, ℕ, zero, suc, ◌+◌, ◌<◌, ◌≤◌, ◌==◌, nat_lt, Bool, true, false, List, [], ◌∷◌, length, map, get_or, set, Option, Some, inl, inr, refl, sym, ap, subst, ◌∙◌, arith}
use Rattle.std.proofs.lemmas.Bool.{eqb-true, false≢true, ltb-false, ltb-true, or_cases, true≢false}
use Rattle.std.proofs.lemmas.List.{length-map}
use Rattle.convoy_plans.specs.Placements.{Completes, IsPlacement, site_at}
use Rattle.convoy_plans.specs.Plans.{Plan, has, sites_of}
use Rattle.convoy_best_order.specs.declared.wanted.Wanted.{Wanted}
use Rattle.convoy_best_plan.specs.declared.planned.Planned.{Planned}
use Rattle.convoy_best_plan.specs.BestPlans.{IsNew}
use Rattle.convoy_best_plan.specs.Standings.{ArePassed, HasFallen, IsPassed}
use Rattle.convoy_best_plan.proofs.Found.{passed_after}
use Rattle.convoy_best_plan.proofs.Placing.{completes_more, one_placement}

-- all placements are passed that have the group at one of its first sites
abbrev pub PassedUpTo : Wanted → Plan → List Planned → Option Planned → List (Option ℕ) → ℕ → ℕ → Type 0
PassedUpTo wanted plan told chosen sites group count =
    (placement : List ℕ) → IsPlacement plan placement → IsNew told placement → Completes placement sites
    → (k : ℕ) → k < count → get_or (sites_of plan group) k 0 ≡ site_at placement group → IsPassed wanted plan chosen placement

pub none_yet : (wanted : Wanted) (plan : Plan) (told : List Planned) (chosen : Option Planned) (sites : List (Option ℕ)) (group : ℕ) → PassedUpTo wanted plan told chosen sites group 0
none_yet wanted plan told chosen sites group placement is new all k below at = absurd (omega (arith, below))

pub one_more_site : (wanted : Wanted) (plan : Plan) (told : List Planned) (old new : Option Planned) (sites : List (Option ℕ)) (group i site : ℕ) → group < length sites
    → get_or (sites_of plan group) i 0 ≡ site → HasFallen old new → PassedUpTo wanted plan told old sites group i → ArePassed wanted plan told new (set sites group (Some site))
    → PassedUpTo wanted plan told new sites group (i + 1)
one_more_site wanted plan told old new sites group i site within here fallen before next placement is fresh all k below at = by_place (nat_lt k i) refl where
  by_place : (b : Bool) → nat_lt k i ≡ b → IsPassed wanted plan new placement
  by_place true less = passed_after wanted plan old new placement fallen (before placement is fresh all k (ltb-true k i less) at)
  by_place false past =
      let low = ltb-false k i past in
      let same : k ≡ i = omega (arith, low, below) in
      next placement is fresh (completes_more placement sites group site within all (sym at ∙ ap (λ n. get_or (sites_of plan group) n 0) same ∙ here))

-- the same with the sites as they are found: those of the group, and those with one more
pub next_site : (wanted : Wanted) (plan : Plan) (told : List Planned) (old new : Option Planned) (sites made more : List (Option ℕ)) (homes : List ℕ) (group i : ℕ) → group < length sites
    → homes ≡ sites_of plan group → more ≡ made → made ≡ set sites group (Some (get_or homes i 0)) → HasFallen old new → PassedUpTo wanted plan told old sites group i
    → ArePassed wanted plan told new more → PassedUpTo wanted plan told new sites group (i + 1)
next_site wanted plan told old new sites made more homes group i within same copied is fallen before next =
    one_more_site wanted plan told old new sites group i (get_or homes i 0) within (ap (λ (ns : List ℕ). get_or ns i 0) (sym same)) fallen before
    (subst (λ (ss : List (Option ℕ)). ArePassed wanted plan told new ss) (copied ∙ is) next)

-- where a number stands
place_of : (ns : List ℕ) (s : ℕ) → has s ns ≡ true → (k : ℕ) × (k < length ns) × (get_or ns k 0 ≡ s)
place_of [] s some = absurd (false≢true some)
place_of (n ∷ ns) s some = elim (or_cases (n == s) (has s ns) some) [
  | inl same ↦ (zero, omega arith, eqb-true n s same)
  | inr later ↦ let found = place_of ns s later in (suc found.0, omega arith, found.2)
]

pub all_sites : (wanted : Wanted) (plan : Plan) (told : List Planned) (chosen : Option Planned) (sites : List (Option ℕ)) (homes : List ℕ) (group count : ℕ) → group < length plan.housed
    → homes ≡ sites_of plan group → length homes ≤ count → PassedUpTo wanted plan told chosen sites group count → ArePassed wanted plan told chosen sites
all_sites wanted plan told chosen sites homes group count known same many passed placement is new all = elim (is.housed group) [
  | inl home ↦
      let found = place_of (sites_of plan group) (site_at placement group) home in
      passed placement is new all found.0 (omega (arith, found.1, many, ap length same)) found.2
  | inr past ↦ absurd (omega (arith, past, known))
]

-- ---- where each group has a site
module _ (wanted : Wanted) (plan : Plan) (told : List Planned) (chosen : Option Planned) (sites : List (Option ℕ)) (placement : List ℕ) (placed : map (λ site. Some site) placement ≡ sites)
    (long : length sites ≡ length plan.housed) where
  one : (other : List ℕ) → IsPlacement plan other → Completes other sites → other ≡ placement
  one other is all =
      one_placement placement other (subst (Completes other) (sym placed) all)
      (let whole = is.whole in let same = ap length placed in let mapped = length-map placement (λ site. Some site) in omega (arith, whole, same, mapped, long))

  pub passed_alone : IsPassed wanted plan chosen placement → ArePassed wanted plan told chosen sites
  passed_alone here other is new all = subst (IsPassed wanted plan chosen) (sym (one other is all)) here

  pub passed_none : (test : Bool) → (test ≡ true) ↔ IsPlacement plan placement → test ≡ false → ArePassed wanted plan told chosen sites
  passed_none test tells not_placed other is new all =
      absurd (true≢false (sym (tells.1 (subst (IsPlacement plan) (one other is all) is)) ∙ not_placed))

  pub passed_told : (test : Bool) → (test ≡ true) ↔ IsNew told placement → test ≡ false → ArePassed wanted plan told chosen sites
  passed_told test tells not_new other is new all =
      absurd (true≢false (sym (tells.1 (subst (IsNew told) (one other is all) new)) ∙ not_new))
