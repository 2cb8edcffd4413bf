-- A target that is late with its group listed last is late in each order.
use Rattle.std.proofs.Common.{All, ◌≡◌, ℕ, ◌+◌, ◌<◌, length, get_or, Ok, List, [], ◌∷◌, ◌++◌, inl, inr, refl, sym, add-one, zero-add, ap, subst, ◌∙◌, arith}
use Rattle.std.specs.List.{Contains, range_with_len, remove}
use Rattle.std.specs.List.Sorted.{IsPermutation}
use Rattle.std.proofs.lemmas.List.FromFn.{get_or-range_with_len, length-range_with_len}
use Rattle.std.proofs.lemmas.List.Sorted.{IsPermutation-sym, IsPermutation-to_front, IsPermutation-trans}
use Rattle.convoy_scenario.proofs.NumberLemmas.{range_with_len-more}
use Rattle.convoy_scenario.specs.Naming.{draft_for}
use Rattle.convoy_scenario.specs.Scenario.{Scenario}
use Rattle.convoy_scenario.specs.ScenarioLaws.{DraftsGiveScenarios, ScenariosHaveDrafts}
use Rattle.convoy_scenario.specs.WellFormed.{IsScenario}
use Rattle.convoy_sim.specs.Greatest.{IsReached}
use Rattle.convoy_sim.proofs.Membership.{IsIn, in_of_contains}
use Rattle.convoy_orders.specs.AllOrders.{IsHeldUp, NoOrderIsBelow}
use Rattle.convoy_orders.specs.GreatestAt.{IsLate}
use Rattle.convoy_orders.specs.Relisted.{RelistedDraftsAreRenumbered, RelistedDraftsGiveScenarios, number_in, relisted}
use Rattle.convoy_orders.specs.Renumbered.{IsRenumbered}
use Rattle.convoy_best_order.specs.declared.excess.Excess.{Excess}
use Rattle.convoy_best_order.specs.declared.target.Target.{Target}
use Rattle.convoy_best_order.specs.Orders.{IsOrder, group_numbers, listed, names_of}
use Rattle.convoy_best_order.specs.Targets.{MayBeTarget, asked_of}
use Rattle.convoy_best_order.proofs.Asking.{late_in, reached_in, well_asked}
use Rattle.convoy_best_order.proofs.Better.{behind_among, group_known}
use Rattle.convoy_best_order.proofs.Relisting.{in_order, is_listed, of_one_draft}
use Rattle.convoy_best_order.proofs.Steps.{front}
use Rattle.convoy_best_plan.specs.BestPlans.{IsExceeded}
use Rattle.convoy_best_plan.specs.Witnesses.{IsLastListed, IsPast}
use Rattle.convoy_best_plan.proofs.Found.{same_made}

-- the laws that it rests on
pub record Used : Type 0 where
  pub have : ScenariosHaveDrafts
  pub given : DraftsGiveScenarios
  pub give : RelistedDraftsGiveScenarios
  pub renumbered : RelistedDraftsAreRenumbered
  pub below : NoOrderIsBelow

none_among : (P : ℕ → Type 0) → All P []
none_among P k d l = absurd (omega (arith, l))

one_alone : (g h : ℕ) → IsIn h (g ∷ []) → h ≡ g
one_alone g h (inl e) = sym e
one_alone g h (inr none) = absurd none

module _ (used : Used) (scenario : Scenario) (target : Target) (well : IsScenario scenario) (may : MayBeTarget scenario target) where
  same_in : (order : List ℕ) → IsOrder scenario order →
      IsRenumbered (number_in (names_of scenario order) scenario.groups) (number_in scenario.groups (names_of scenario order)) scenario (in_order scenario order)
  same_in order is = used.renumbered (draft_for scenario) (names_of scenario order) scenario (in_order scenario order) (of_one_draft used.have used.give scenario order well is)

  well_in : (order : List ℕ) → IsOrder scenario order → IsScenario (in_order scenario order)
  well_in order is = used.given (relisted (names_of scenario order) (draft_for scenario)) (in_order scenario order) (is_listed used.have used.give scenario order well is)

  held_up : (instance : Scenario) (latency : ℕ) → IsLastListed scenario target instance → IsReached instance latency
      → IsHeldUp scenario (target.group ∷ []) target.message target.group latency
  held_up instance latency last reached =
      let order : List ℕ = last.ahead ++ target.group ∷ [] in
      let made = is_listed used.have used.give (asked_of scenario target) order (well_asked scenario target well may) last.is in
      let one : instance ≡ in_order (asked_of scenario target) order = same_made (listed (asked_of scenario target) order) _ _ last.made made in
      record {
        renumber = number_in (names_of scenario order) scenario.groups;
        back = number_in scenario.groups (names_of scenario order);
        listed = in_order scenario order;
        well = well_in order last.is;
        is = same_in order last.is;
        goes = may.addressed;
        behind = λ h goes later.
            behind_among scenario order last.is (same_in order last.is) last.ahead [] (target.group ∷ []) target.group h refl (none_among (Contains (target.group ∷ [])))
            (group_known scenario well target.message h goes) later;
        run = late_in used.have used.give used.renumbered scenario order target well may last.is latency latency (omega arith)
            (subst (λ (s : Scenario). IsReached s latency) one reached);
      }

  pub past_in_all : (targets : List Target) (least : Excess) (instance : Scenario) → Contains targets target → IsLastListed scenario target instance
      → IsPast instance target least → IsExceeded scenario targets least
  past_in_all targets least instance of_target last past order is =
      let latency : ℕ = past.0 in
      let number : ℕ → ℕ = number_in (names_of scenario order) scenario.groups in
      let late = used.below number (number_in scenario.groups (names_of scenario order)) scenario (in_order scenario order) (target.group ∷ [])
      (λ g. target.message) (λ g. latency) well (well_in order is) (same_in order is) (omega arith)
      (λ g among.
      subst (λ h. IsHeldUp scenario (target.group ∷ []) target.message h latency) (sym (one_alone target.group g (in_of_contains g (target.group ∷ []) among)))
      (held_up instance latency last past.1)) in
      let here = one_alone target.group late.0 (in_of_contains late.0 (target.group ∷ []) late.1) in
      let run = reached_in used.have used.give used.renumbered scenario order target well may is latency
      (subst (λ h. IsLate (in_order scenario order) target.message (number h) latency) here late.2) in
      let low = run.2 in
      let exceeds = past.2 in
      record {
        target = target;
        of_target = of_target;
        instance = in_order (asked_of scenario target) order;
        made = is_listed used.have used.give (asked_of scenario target) order (well_asked scenario target well may) is;
        latency = run.0;
        reached = run.1;
        exceeds = omega (arith, exceeds, low);
      }

-- ---- the order in which a group stands last
pub one_more_number : (n : ℕ) → range_with_len 0 (n + 1) ≡ range_with_len 0 n ++ n ∷ []
one_more_number n =
    ap (range_with_len 0) (add-one n) ∙ range_with_len-more 0 n ∙ ap (λ (k : ℕ). range_with_len 0 n ++ k ∷ []) (zero-add n)

pub last_is : (scenario : Scenario) (g : ℕ) → g < length scenario.groups → IsOrder scenario (remove (group_numbers scenario) g ++ g ∷ [])
last_is scenario g known =
    let numbers : List ℕ = group_numbers scenario in
    let rest : List ℕ = remove numbers g in
    let within : g < length numbers = omega (arith, known, length-range_with_len 0 (length scenario.groups)) in
    let at : get_or numbers g 0 ≡ g = get_or-range_with_len 0 (length scenario.groups) g 0 known ∙ omega arith in
    IsPermutation-trans numbers (g ∷ rest) (rest ++ g ∷ []) (subst (λ (n : ℕ). IsPermutation numbers (n ∷ rest)) at (front numbers g within))
    (IsPermutation-sym (rest ++ g ∷ []) (g ∷ rest) (IsPermutation-to_front rest g))

module _ (scenario asked : Scenario) (target : Target) (count : ℕ) (order : List ℕ) (known : target.group < length scenario.groups)
    (all : count ≡ length scenario.groups) (is_asked : asked ≡ asked_of scenario target)
    (is : order ≡ remove (range_with_len 0 count) target.group ++ get_or (range_with_len 0 count) target.group 0 ∷ []) where
  same_order : order ≡ remove (group_numbers scenario) target.group ++ target.group ∷ []
  same_order =
      let g : ℕ = target.group in
      let at : get_or (group_numbers scenario) g 0 ≡ g = get_or-range_with_len 0 (length scenario.groups) g 0 known ∙ omega arith in
      is ∙ ap (λ (n : ℕ). remove (range_with_len 0 n) g ++ get_or (range_with_len 0 n) g 0 ∷ []) all
      ∙ ap (λ (n : ℕ). remove (group_numbers scenario) g ++ n ∷ []) at

  pub last_order : IsOrder asked order
  last_order =
      subst (λ (s : Scenario). IsOrder s order) (sym is_asked) (subst (IsOrder scenario) (sym same_order) (last_is scenario target.group known))

  pub last_made : (instance : Scenario) → listed asked order ≡ Ok instance → IsLastListed scenario target instance
  last_made instance made = record {
    ahead = remove (group_numbers scenario) target.group;
    is = last_is scenario target.group known;
    made = subst (λ (gs : List ℕ). listed (asked_of scenario target) gs ≡ Ok instance) same_order (subst (λ (s : Scenario). listed s order ≡ Ok instance) is_asked made);
  }
