-- What stays true of a search as its choice gets better, and that all placements that have some sites are passed once those with one more site of a group are.
use Rattle.std.proofs.Common.{◌≡◌, ◌↔◌, ℕ, zero, suc, ◌+◌, ◌<◌, ◌≤◌, ◌==◌, nat_lt, Bool, true, false, cond, List, [], ◌∷◌, length, map, get_or, set, Option, Some, None, Ok, inl, inr, refl, sym, ap, subst, ◌∙◌, arith}
use Rattle.std.proofs.lemmas.Bool.{eqb-true, false≢true, ltb-false, ltb-true, or_cases, true≢false}
use Rattle.std.proofs.lemmas.List.{length-map}
use Rattle.convoy_scenario.specs.Scenario.{Scenario}
use Rattle.convoy_plans.specs.Placements.{Completes, IsPlacement, scenario_at, site_at}
use Rattle.convoy_plans.specs.Plans.{Plan, has, sites_of}
use Rattle.convoy_best_order.specs.declared.wanted.Wanted.{Wanted}
use Rattle.convoy_best_plan.specs.BestPlans.{HasNoScenario}
use Rattle.convoy_best_plan.specs.declared.floor.Floor.{Floor}
use Rattle.convoy_best_plan.specs.Floors.{IsNoHigher, is_lower}
use Rattle.convoy_best_plan.proofs.Found.{same_made}
use Rattle.convoy_best_plan.proofs.Lower.{no_higher_after, no_higher_of, no_higher_self, no_lower_of}
use Rattle.convoy_best_plan.proofs.Placing.{completes_more, one_placement}
use Rattle.convoy_plan_ceilings.specs.declared.ceiling_choice.CeilingChoice.{CeilingChoice}
use Rattle.convoy_plan_ceilings.specs.LeastCeilings.{IsCeilingChoice, IsCeilingChosen, IsNoBetter, reach_at}
use Rattle.convoy_plan_ceilings.specs.Standings.{ArePassed, HasFallen, IsChosen, IsPassed, better}

-- ---- standing
pub fallen_self : (chosen : Option CeilingChoice) → HasFallen chosen chosen
fallen_self None = tt
fallen_self (Some chosen) = no_higher_self chosen.reach

pub fallen_after : (first second third : Option CeilingChoice) → HasFallen first second → HasFallen second third → HasFallen first third
fallen_after None second third one two = tt
fallen_after (Some a) None third one two = absurd one
fallen_after (Some a) (Some b) None one two = absurd two
fallen_after (Some a) (Some b) (Some c) one two = no_higher_after c.reach b.reach a.reach two one

pub no_better_after : (wanted : Wanted) (plan : Plan) (reach other : Floor) (placement : List ℕ) → IsNoHigher reach other → IsNoBetter wanted plan other placement
    → IsNoBetter wanted plan reach placement
no_better_after wanted plan reach other placement low is scenario made = no_higher_after reach other (reach_at wanted plan scenario) low (is scenario made)

pub passed_after : (wanted : Wanted) (plan : Plan) (first second : Option CeilingChoice) (placement : List ℕ) → HasFallen first second
    → IsPassed wanted plan first placement → IsPassed wanted plan second placement
passed_after wanted plan None None placement fallen is = is
passed_after wanted plan None (Some b) placement fallen is = λ scenario made. absurd (is scenario made)
passed_after wanted plan (Some a) None placement fallen is = absurd fallen
passed_after wanted plan (Some a) (Some b) placement fallen is = no_better_after wanted plan b.reach a.reach placement fallen is

-- what has no scenario is passed
pub passed_without : (wanted : Wanted) (plan : Plan) (chosen : Option CeilingChoice) (placement : List ℕ) → HasNoScenario plan placement
    → IsPassed wanted plan chosen placement
passed_without wanted plan None placement none = none
passed_without wanted plan (Some chosen) placement none = λ scenario made. absurd (none scenario made)

-- ---- one more choice
-- the placement of a choice is no better than that
no_better_self : (wanted : Wanted) (plan : Plan) (found : CeilingChoice) (placement : List ℕ) (scenario : Scenario) → scenario_at plan placement ≡ Ok scenario
    → found.scenario ≡ scenario → IsCeilingChoice wanted plan found → IsNoBetter wanted plan found.reach placement
no_better_self wanted plan found placement scenario made same is other other_made =
    let one : found.scenario ≡ other = same ∙ same_made (scenario_at plan placement) scenario other made other_made in
    subst (λ (floor : Floor). IsNoHigher found.reach floor) (is.reach ∙ ap (reach_at wanted plan) one) (no_higher_self found.reach)

-- the better of two is one of them, and no higher than either
pub record IsBetter (wanted : Wanted) (plan : Plan) (old : Option CeilingChoice) (found next : CeilingChoice) : Type 0 where
  pub choice : IsCeilingChoice wanted plan next
  pub fallen : HasFallen old (Some next)
  pub low : IsNoHigher next.reach found.reach

pub better_both : (wanted : Wanted) (plan : Plan) (old : Option CeilingChoice) (found : CeilingChoice) → IsChosen wanted plan old → IsCeilingChoice wanted plan found
    → IsBetter wanted plan old found (better old found)
better_both wanted plan None found is new = record { choice = new; fallen = tt; low = no_higher_self found.reach }
better_both wanted plan (Some chosen) found is new = by_test (is_lower found.reach chosen.reach) refl where
  by_test : (lower : Bool) → is_lower found.reach chosen.reach ≡ lower → IsBetter wanted plan (Some chosen) found (cond lower found chosen)
  by_test true lower = record { choice = new; fallen = no_higher_of found.reach chosen.reach lower; low = no_higher_self found.reach }
  by_test false lower = record { choice = is; fallen = no_higher_self chosen.reach; low = no_lower_of found.reach chosen.reach lower }

-- how the search stands after a placement with a scenario
pub record After (wanted : Wanted) (plan : Plan) (old new : Option CeilingChoice) (placement : List ℕ) : Type 0 where
  pub chosen : IsChosen wanted plan new
  pub fallen : HasFallen old new
  pub passed : IsPassed wanted plan new placement

pub after_found : (wanted : Wanted) (plan : Plan) (old : Option CeilingChoice) (found next : CeilingChoice) (placement : List ℕ) (scenario : Scenario)
    → scenario_at plan placement ≡ Ok scenario → found.scenario ≡ scenario → IsChosen wanted plan old → IsCeilingChoice wanted plan found → next ≡ better old found
    → After wanted plan old (Some next) placement
after_found wanted plan old found next placement scenario made same is new gives =
    subst (λ (n : CeilingChoice). After wanted plan old (Some n) placement) (sym gives)
    (let both = better_both wanted plan old found is new in
    record {
      chosen = both.choice;
      fallen = both.fallen;
      passed = no_better_after wanted plan (better old found).reach found.reach placement both.low (no_better_self wanted plan found placement scenario made same new);
    })

-- where all placements are passed that is what may be answered
pub chosen_of : (wanted : Wanted) (plan : Plan) (chosen : Option CeilingChoice) → IsChosen wanted plan chosen
    → ((placement : List ℕ) → IsPlacement plan placement → IsPassed wanted plan chosen placement) → IsCeilingChosen wanted plan chosen
chosen_of wanted plan None is passed = passed
chosen_of wanted plan (Some chosen) is passed = record { choice = is; none_better = passed }

-- ---- one more group
-- all placements are passed that have the group at one of its first sites
abbrev pub PassedUpTo : Wanted → Plan → Option CeilingChoice → List (Option ℕ) → ℕ → ℕ → Type 0
PassedUpTo wanted plan chosen sites group count =
    (placement : List ℕ) → IsPlacement plan placement → Completes placement sites
    → (k : ℕ) → k < count → get_or (sites_of plan group) k 0 ≡ site_at placement group → IsPassed wanted plan chosen placement

pub none_yet : (wanted : Wanted) (plan : Plan) (chosen : Option CeilingChoice) (sites : List (Option ℕ)) (group : ℕ) → PassedUpTo wanted plan chosen sites group 0
none_yet wanted plan chosen sites group placement is all k below at = absurd (omega (arith, below))

one_more_site : (wanted : Wanted) (plan : Plan) (old new : Option CeilingChoice) (sites : List (Option ℕ)) (group i site : ℕ) → group < length sites
    → get_or (sites_of plan group) i 0 ≡ site → HasFallen old new → PassedUpTo wanted plan old sites group i → ArePassed wanted plan new (set sites group (Some site))
    → PassedUpTo wanted plan new sites group (i + 1)
one_more_site wanted plan old new sites group i site within here fallen before next placement is all k below at = by_place (nat_lt k i) refl where
  by_place : (b : Bool) → nat_lt k i ≡ b → IsPassed wanted plan new placement
  by_place true less = passed_after wanted plan old new placement fallen (before placement is all k (ltb-true k i less) at)
  by_place false past =
      let low = ltb-false k i past in
      let same : k ≡ i = omega (arith, low, below) in
      next placement is (completes_more placement sites group site within all (sym at ∙ ap (λ n. get_or (sites_of plan group) n 0) same ∙ here))

-- the same with the sites as they are found: those of the group, and those with one more
pub next_site : (wanted : Wanted) (plan : Plan) (old new : Option CeilingChoice) (sites made more : List (Option ℕ)) (homes : List ℕ) (group i : ℕ) → group < length sites
    → homes ≡ sites_of plan group → more ≡ made → made ≡ set sites group (Some (get_or homes i 0)) → HasFallen old new → PassedUpTo wanted plan old sites group i
    → ArePassed wanted plan new more → PassedUpTo wanted plan new sites group (i + 1)
next_site wanted plan old new sites made more homes group i within same copied is fallen before next =
    one_more_site wanted plan old new sites group i (get_or homes i 0) within (ap (λ (ns : List ℕ). get_or ns i 0) (sym same)) fallen before
    (subst (λ (ss : List (Option ℕ)). ArePassed wanted plan new ss) (copied ∙ is) next)

-- where a number stands
place_of : (ns : List ℕ) (s : ℕ) → has s ns ≡ true → (k : ℕ) × (k < length ns) × (get_or ns k 0 ≡ s)
place_of [] s some = absurd (false≢true some)
place_of (n ∷ ns) s some = elim (or_cases (n == s) (has s ns) some) [
  | inl same ↦ (zero, omega arith, eqb-true n s same)
  | inr later ↦ let found = place_of ns s later in (suc found.0, omega arith, found.2)
]

pub all_sites : (wanted : Wanted) (plan : Plan) (chosen : Option CeilingChoice) (sites : List (Option ℕ)) (homes : List ℕ) (group count : ℕ) → group < length plan.housed
    → homes ≡ sites_of plan group → length homes ≤ count → PassedUpTo wanted plan chosen sites group count → ArePassed wanted plan chosen sites
all_sites wanted plan chosen sites homes group count known same many passed placement is all = elim (is.housed group) [
  | inl home ↦
      let found = place_of (sites_of plan group) (site_at placement group) home in
      passed placement is all found.0 (omega (arith, found.1, many, ap length same)) found.2
  | inr past ↦ absurd (omega (arith, past, known))
]

-- ---- where each group has a site
module _ (wanted : Wanted) (plan : Plan) (chosen : Option CeilingChoice) (sites : List (Option ℕ)) (placement : List ℕ) (placed : map (λ site. Some site) placement ≡ sites)
    (long : length sites ≡ length plan.housed) where
  one : (other : List ℕ) → IsPlacement plan other → Completes other sites → other ≡ placement
  one other is all =
      one_placement placement other (subst (Completes other) (sym placed) all)
      (let whole = is.whole in let same = ap length placed in let mapped = length-map placement (λ site. Some site) in omega (arith, whole, same, mapped, long))

  pub passed_alone : IsPassed wanted plan chosen placement → ArePassed wanted plan chosen sites
  passed_alone here other is all = subst (IsPassed wanted plan chosen) (sym (one other is all)) here

  pub passed_none : (test : Bool) → (test ≡ true) ↔ IsPlacement plan placement → test ≡ false → ArePassed wanted plan chosen sites
  passed_none test tells not_placed other is all =
      absurd (true≢false (sym (tells.1 (subst (IsPlacement plan) (one other is all) is)) ∙ not_placed))
