-- A tree of right nodes covers all placements: none is below the floor.
use Rattle.std.proofs.Common.{◌≡◌, ℕ, ◌<◌, true, ◌&&◌, List, [], ◌∷◌, ◌++◌, length, get_or, set, ext_get_or, length-set, Option, Some, None, is_some, is_none, unwrap_or, Result, Ok, Err, inl, inr, refl, sym, ap, subst, ◌∙◌, eqb-true, arith}
use Rattle.std.specs.List.{slice_get}
use Rattle.std.proofs.lemmas.Bool.{and_parts, false≢true}
use Rattle.std.proofs.lemmas.List.{get_or-map, length-map}
use Rattle.std.proofs.lemmas.List.Sums.{AllPass-from_list_all}
use Rattle.std.proofs.lemmas.Option.{slice_get_within}
use Rattle.convoy_draft.specs.declared.fault.ScenarioFault.{ScenarioFault}
use Rattle.convoy_scenario.specs.Scenario.{Scenario}
use Rattle.convoy_sim.proofs.Membership.{IsIn, in-append_left, in-append_right, in-map, in_append_cases, in_of_map}
use Rattle.convoy_plans.specs.Placements.{Completes, IsPlacement, scenario_at, site_at}
use Rattle.convoy_plans.specs.Plans.{IsPlan, Plan, is_apart, sites_of}
use Rattle.convoy_best_plan.specs.BestPlans.{IsNotBelow, targets_by}
use Rattle.convoy_best_plan.specs.Floors.{excess_at}
use Rattle.convoy_best_plan.specs.Leaves.{site_known}
use Rattle.convoy_best_plan.specs.Totals.{total_of}
use Rattle.convoy_best_plan.proofs.Agreeing.{well_made}
use Rattle.convoy_best_plan.proofs.Found.{not_below_here}
use Rattle.convoy_best_plan.proofs.LastListed.{Used as OrderLaws}
use Rattle.convoy_best_plan.proofs.LateAnyhow.{Used as CommitLaws}
use Rattle.convoy_best_plan.proofs.Placing.{completes_more}
use Rattle.convoy_plan_certificate.specs.declared.branch.Branch.{Branch}
use Rattle.convoy_plan_certificate.specs.declared.branch.Branch.TheVariants.{Split, Apart, Commit, NoScenario, Late}
use Rattle.convoy_plan_certificate.specs.declared.branch.Witness.{Witness}
use Rattle.convoy_plan_checker.specs.Sites.{Sites, is_left, is_one_site, is_open, is_placed, placement_of, sites_below}
use Rattle.convoy_plan_checker.specs.Trees.{AreTrees, Claim, if_made, is_late_made, is_right, scenario_over}
use Rattle.convoy_plan_checker.proofs.Committed.{commit_not_below}
use Rattle.convoy_plan_checker.proofs.Orders.{in_of_has}
use Rattle.convoy_plan_checker.proofs.Targeted.{may_be}
use Rattle.convoy_plan_checker.proofs.Witnessed.{exceeded}

-- ---- sites
open_is : (site : Option (Option ℕ)) → is_open site ≡ true → site ≡ Some None
open_is None is = absurd (false≢true is)
open_is (Some None) is = refl
open_is (Some (Some s)) is = absurd (false≢true is)

left_within : (sites : Sites) (g : ℕ) → is_left sites g ≡ true → g < length sites
left_within sites g is = slice_get_within sites g None (open_is (slice_get sites g) is)

one_site : (site other : Option ℕ) → is_one_site site other ≡ true → (s : ℕ) × (site ≡ Some s) × (other ≡ Some s)
one_site None other is = absurd (false≢true is)
one_site (Some s) None is = absurd (false≢true is)
one_site (Some s) (Some t) is = (s, refl, ap (λ (n : ℕ). Some n) (sym (eqb-true s t is)))

known_site : (site : Option ℕ) → is_some site ≡ true → site ≡ Some (unwrap_or site 0)
known_site None is = absurd (false≢true is)
known_site (Some s) is = refl

-- where each group has its site, there is one placement
placed_one : (sites : Sites) (placement : List ℕ) → is_placed sites ≡ true → Completes placement sites → length placement ≡ length sites → placement ≡ placement_of sites
placed_one sites placement all completes long =
    let mapped = length-map sites (λ (site : Option ℕ). unwrap_or site 0) in
    ext_get_or 0 placement (placement_of sites) (long ∙ sym mapped)
    (λ i l.
    let within : i < length sites = omega (arith, l, long) in
    let known = known_site (get_or sites i None) (AllPass-from_list_all is_some sites all i None within) in
    completes i (unwrap_or (get_or sites i None) 0) known ∙ sym (get_or-map (λ (site : Option ℕ). unwrap_or site 0) sites i None 0 within))

-- ---- nodes
module _ (orders : OrderLaws) (commits : CommitLaws) (plan : Plan) (is_plan : IsPlan plan) (claim : Claim) (home : List ℕ) (home_made : scenario_at plan home ≡ Ok claim.scenario)
    (own : claim.targets ≡ targets_by claim.wanted plan claim.scenario) where
  -- no placement that has these sites is below the floor
  abbrev IsCovered : Sites → Type 0
  IsCovered sites = (placement : List ℕ) → IsPlacement plan placement → Completes placement sites → IsNotBelow claim.wanted plan claim.floor placement

  split_covers : (sites : Sites) (g : ℕ) → length sites ≡ length plan.housed → is_left sites g ≡ true
      → ((below : Sites) → IsIn below (sites_below plan (Split g) sites) → IsCovered below) → IsCovered sites
  split_covers sites g long is each placement placed all = elim (placed.housed g) [
    | inl housed ↦
        let site : ℕ = site_at placement g in
        each (set sites g (Some site)) (in-map (λ (s : ℕ). set sites g (Some s)) site (sites_of plan g) (in_of_has site (sites_of plan g) housed)) placement placed
        (completes_more placement sites g site (left_within sites g is) all refl)
    | inr past ↦ absurd (omega (arith, past, left_within sites g is, long))
  ]

  apart_covers : (sites : Sites) (g h : ℕ) → (is_apart plan g h && is_one_site (site_known sites g) (site_known sites h)) ≡ true → IsCovered sites
  apart_covers sites g h is placement placed all =
      let parts = and_parts (is_apart plan g h) (is_one_site (site_known sites g) (site_known sites h)) is in
      let one = one_site (site_known sites g) (site_known sites h) parts.1 in
      absurd (placed.apart g h parts.0 (all g one.0 one.1 ∙ sym (all h one.0 one.2)))

  unmade_covers : (sites : Sites) → length sites ≡ length plan.housed → (is_placed sites && is_none (scenario_over plan sites)) ≡ true → IsCovered sites
  unmade_covers sites long is placement placed all scenario made =
      let parts = and_parts (is_placed sites) (is_none (scenario_over plan sites)) is in
      let one = placed_one sites placement parts.0 all (placed.whole ∙ sym long) in
      let here : scenario_at plan (placement_of sites) ≡ Ok scenario = ap (scenario_at plan) (sym one) ∙ made in
      absurd (false≢true (sym (ap (λ (made : Result Scenario ScenarioFault). is_none (if_made made)) here) ∙ parts.1))

  late_covers : (sites : Sites) (witnesses : List Witness) → length sites ≡ length plan.housed
      → (is_placed sites && is_late_made plan claim witnesses (scenario_over plan sites)) ≡ true → IsCovered sites
  late_covers sites witnesses long is placement placed all =
      let parts = and_parts (is_placed sites) (is_late_made plan claim witnesses (scenario_over plan sites)) is in
      let one = placed_one sites placement parts.0 all (placed.whole ∙ sym long) in
      by_made (scenario_at plan placement) refl (ap (λ (p : List ℕ). is_late_made plan claim witnesses (if_made (scenario_at plan p))) one ∙ parts.1) where
        by_made : (made : Result Scenario ScenarioFault) → scenario_at plan placement ≡ made → is_late_made plan claim witnesses (if_made made) ≡ true
            → IsNotBelow claim.wanted plan claim.floor placement
        by_made (Err fault) same late = absurd (false≢true late)
        by_made (Ok scenario) same late =
            let well = well_made plan placement scenario same orders.given in
            not_below_here claim.wanted plan claim.floor placement scenario same
            (exceeded orders scenario (targets_by claim.wanted plan scenario) (excess_at claim.floor (total_of scenario)) witnesses well
            (may_be claim.wanted plan scenario well) late)

  node_covers : (node : Branch) (sites : Sites) → length sites ≡ length plan.housed → is_right plan claim node sites ≡ true
      → ((below : Sites) → IsIn below (sites_below plan node sites) → IsCovered below) → IsCovered sites
  node_covers (Split g) sites long is each = split_covers sites g long is each
  node_covers (Apart g h) sites long is each = apart_covers sites g h is
  node_covers (Commit k) sites long is each = λ placement placed all. commit_not_below commits plan is_plan claim home home_made own sites k is placement all
  node_covers NoScenario sites long is each = unmade_covers sites long is
  node_covers (Late witnesses) sites long is each = late_covers sites witnesses.items long is

  below_long : (node : Branch) (sites below : Sites) → IsIn below (sites_below plan node sites) → length below ≡ length sites
  below_long (Split g) sites below i =
      let found = in_of_map (λ (s : ℕ). set sites g (Some s)) below (sites_of plan g) i in
      ap length (sym found.2) ∙ length-set sites g (Some found.0)
  below_long (Apart g h) sites below i = absurd i
  below_long (Commit k) sites below i = absurd i
  below_long NoScenario sites below i = absurd i
  below_long (Late witnesses) sites below i = absurd i

  -- ---- trees
  pub trees_cover : (nodes : List Branch) (left : List Sites) → ((sites : Sites) → IsIn sites left → length sites ≡ length plan.housed)
      → AreTrees plan claim left nodes → (sites : Sites) → IsIn sites left → IsCovered sites
  trees_cover [] [] long tree sites i = absurd i
  trees_cover [] (first ∷ left) long tree sites i = absurd tree
  trees_cover (node ∷ nodes) [] long tree sites i = absurd i
  trees_cover (node ∷ nodes) (first ∷ left) long tree sites i =
      let below : List Sites = sites_below plan node first in
      let rest = trees_cover nodes (below ++ left)
      (λ s j.
      elim (in_append_cases s below left j) [
        | inl here ↦ below_long node first s here ∙ long first (inl refl)
        | inr later ↦ long s (inr later)
      ])
      tree.1 in
      elim i [
        | inl e ↦ subst IsCovered e (node_covers node first (long first (inl refl)) tree.0 (λ s j. rest s (in-append_left s below left j)))
        | inr later ↦ rest sites (in-append_right sites below left later)
      ]
