-- No order is better than the least that is told.
use Rattle.std.proofs.Common.{All, ◌≡◌, ℕ, ◌-◌, ◌<◌, ◌≤◌, ◌==◌, Bool, true, false, cond, List, [], ◌∷◌, ◌++◌, length, map, get_or, Option, None, Result, Ok, Err, IfSome, IsTrue, inl, inr, refl, sym, ap, subst, ◌∙◌, append_assoc, arith}
use Rattle.std.specs.List.{Contains}
use Rattle.std.specs.List.Sorted.{IsPermutation}
use Rattle.std.proofs.lemmas.Bool.{both_ways, cond-true, eq-eqb, eqb-true, lt-ltb}
use Rattle.std.proofs.lemmas.List.{get_or-append_right, get_or-map, length-append, length-map}
use Rattle.std.proofs.lemmas.List.FromFn.{get_or-range_with_len, length-range_with_len}
use Rattle.std.proofs.lemmas.List.Sorted.{All-permutation, IsPermutation-sym, length_permutation}
use Rattle.std.proofs.Math.Seq.{get_or-append_seam}
use Rattle.convoy_around.specs.Around.{is_span}
use Rattle.convoy_around.specs.AroundLaws.{AroundIsScenario}
use Rattle.convoy_draft.specs.declared.fault.ScenarioFault.{ScenarioFault}
use Rattle.convoy_draft.specs.Checks.{is_among}
use Rattle.convoy_scenario.specs.Naming.{draft_for}
use Rattle.convoy_scenario.specs.Numbering.{place}
use Rattle.convoy_scenario.specs.Scenario.{GoesTo, Scenario, group_name_at, message_at, no_message}
use Rattle.convoy_scenario.specs.ScenarioLaws.{DraftsGiveScenarios, ScenariosHaveDrafts}
use Rattle.convoy_scenario.specs.WellFormed.{IsScenario}
use Rattle.convoy_sim.proofs.Addressed.{in_of_goes, number_of_goes}
use Rattle.convoy_sim.specs.Greatest.{IsReached}
use Rattle.convoy_sim.proofs.Membership.{IsIn, all-in, in-map, in_of_contains, in_of_map}
use Rattle.convoy_orders.specs.AllOrders.{IsHeldUp}
use Rattle.convoy_orders.specs.ListedOrder.{FewerBehindIsNoLater, RenumberedRunsAgree}
use Rattle.convoy_orders.specs.Relisted.{RelistedDraftsAreRenumbered, RelistedDraftsGiveScenarios, number_in, relisted}
use Rattle.convoy_orders.specs.Renumbered.{IsRenumbered}
use Rattle.convoy_orders.proofs.Orders.{first_of, late_too}
use Rattle.convoy_orders.proofs.RelistedNames.{all_among, name_kept, number_low}
use Rattle.convoy_branch.specs.Options.{Settings}
use Rattle.convoy_best_order.specs.declared.best.Reason.{Reason}
use Rattle.convoy_best_order.specs.declared.best.Row.{Row}
use Rattle.convoy_best_order.specs.declared.excess.Excess.{Excess}
use Rattle.convoy_best_order.specs.declared.target.Target.{Target}
use Rattle.convoy_best_order.specs.Best.{IsReason, IsRow, excess_of_reason, excess_of_row, group_of, groups_of, target_of}
use Rattle.convoy_best_order.specs.Excesses.{IsAtMost}
use Rattle.convoy_best_order.specs.OrderLaws.{BestOrderIsExact, BestOrderKeeps, IsExceededIn, IsKeptIn, NoOrderIsBetter}
use Rattle.convoy_best_order.specs.Orders.{IsOrder, group_numbers, listed, names_of}
use Rattle.convoy_best_order.specs.Targets.{MayBeTarget, asked_at, asked_of}
use Rattle.convoy_best_order.proofs.Around.{again, may_at, numbers_at, order_at, reason_there, well_at}
use Rattle.convoy_best_order.proofs.Asking.{late_in, reached_in, reached_least, upper_most, well_asked}
use Rattle.convoy_best_order.proofs.Relisting.{in_order, is_listed, names_permuted, of_one_draft}

-- a message goes to groups alone
pub group_known : (scenario : Scenario) → IsScenario scenario → (m g : ℕ) → GoesTo scenario m g → g < length scenario.groups
group_known scenario well m g goes =
    all-in (λ h. h < length scenario.groups) g (message_at scenario m).destinations
    (well.messages m no_message (number_of_goes scenario m g goes)).known (in_of_goes scenario m g goes)

-- ---- WHERE A GROUP STANDS IN AN ORDER
module _ (scenario : Scenario) (order : List ℕ) (is : IsOrder scenario order)
    (same : IsRenumbered (number_in (names_of scenario order) scenario.groups) (number_in scenario.groups (names_of scenario order)) scenario (in_order scenario order)) where
  abbrev names : List (List ℕ)
  names = names_of scenario order

  abbrev number : ℕ → ℕ
  number = number_in names scenario.groups

  abbrev back : ℕ → ℕ
  back = number_in scenario.groups names

  permuted : IsPermutation scenario.groups names
  permuted = names_permuted scenario order is

  long : length names ≡ length scenario.groups
  long = length_permutation scenario.groups names permuted

  long_order : length order ≡ length scenario.groups
  long_order = sym (length-map order (group_name_at scenario)) ∙ long

  -- all names of the one list are among the others
  here : (g : ℕ) → g < length scenario.groups → is_among (get_or scenario.groups g []) names ≡ true
  here g l = all_among names scenario.groups (IsPermutation-sym scenario.groups names permuted) g [] l

  there : (k : ℕ) → k < length names → is_among (get_or names k []) scenario.groups ≡ true
  there k l = all_among scenario.groups names permuted k [] l

  all_known : All (λ g. g < length scenario.groups) order
  all_known =
      All-permutation (λ g. g < length scenario.groups) (group_numbers scenario) order is
      (λ i d l.
      let within = subst (λ n. i < n) (length-range_with_len 0 (length scenario.groups)) l in
      let at = get_or-range_with_len 0 (length scenario.groups) i d within in
      omega arith)

  -- groups of one name have one number
  one_number : (g h : ℕ) → g < length scenario.groups → h < length scenario.groups → group_name_at scenario g ≡ group_name_at scenario h → number g ≡ number h
  one_number g h l k e =
      cond-true _ _ _ (lt-ltb g (length scenario.groups) l) ∙ ap (λ name. place name names) e ∙ sym (cond-true _ _ _ (lt-ltb h (length scenario.groups) k))

  -- the name at a place is that of the group there
  named : (k : ℕ) → k < length order → get_or names k [] ≡ group_name_at scenario (get_or order k 0)
  named k l = get_or-map (group_name_at scenario) order k 0 [] l

  -- the group that stands at the place of a group is that group
  pub stands : (h : ℕ) → h < length scenario.groups → get_or order (number h) 0 ≡ h
  stands h l =
      let low = number_low scenario.groups names long here h l in
      let within : number h < length order = omega (arith, low, long, long_order) in
      let name = sym (named (number h) within) ∙ name_kept scenario.groups names long here h l in
      let again = one_number (get_or order (number h) 0) h (all_known (number h) 0 within) l name in
      sym (same.back_again (get_or order (number h) 0)) ∙ ap back again ∙ same.back_again h

  -- a group has the number of the place where it stands
  pub stands_at : (k : ℕ) → k < length order → number (get_or order k 0) ≡ k
  stands_at k l =
      let within : k < length names = omega (arith, l, long, long_order) in
      let low = number_low names scenario.groups (sym long) there k within in
      let name = name_kept names scenario.groups (sym long) there k within ∙ named k l in
      sym (one_number (back k) (get_or order k 0) low (all_known k 0 l) name) ∙ same.there_again k

  -- a group that stands behind another is among those that are said to
  pub behind_among : (ahead behind groups : List ℕ) (g h : ℕ) → order ≡ ahead ++ g ∷ behind → All (Contains groups) behind → h < length scenario.groups
      → number g < number h → Contains groups h
  behind_among ahead behind groups g h split among known later =
      let first : List ℕ = ahead ++ g ∷ [] in
      let split_too : order ≡ first ++ behind = split ∙ sym (append_assoc ahead (g ∷ []) behind) in
      let many = ap length split_too ∙ length-append first behind in
      let few = length-append ahead (g ∷ []) in
      let here_is : length ahead < length order = omega (arith, many, few) in
      let at : get_or order (length ahead) 0 ≡ g = ap (λ xs. get_or xs (length ahead) 0) split ∙ get_or-append_seam ahead g behind 0 in
      let place_of : number g ≡ length ahead = ap number (sym at) ∙ stands_at (length ahead) here_is in
      let low = number_low scenario.groups names long here h known in
      let past : length first ≤ number h = omega (arith, few, place_of, later) in
      let found : get_or behind (number h - length first) 0 ≡ h =
      sym (get_or-append_right first behind (length first) (number h) 0 refl past) ∙ ap (λ xs. get_or xs (number h) 0) (sym split_too) ∙ stands h known in
      subst (Contains groups) found (among (number h - length first) 0 (omega (arith, many, low, long, long_order, past)))

-- ---- THE REASON FOR A GROUP
-- the first of them that is for the group
abbrev pick : List Reason → Reason → ℕ → Reason
pick [] other g = other
pick (reason ∷ reasons) other g = cond (group_of reason == g) reason (pick reasons other g)

pick_is : (reasons : List Reason) (other : Reason) (g : ℕ) → IsIn g (groups_of reasons) → (group_of (pick reasons other g) ≡ g) × IsIn (pick reasons other g) reasons
pick_is [] other g i = absurd i
pick_is (reason ∷ reasons) other g i = by_test (group_of reason == g) refl (λ rest. pick_is reasons other g rest) i where
  apart : (group_of reason == g) ≡ false → group_of reason ≡ g → ⊥
  apart is e = both_ways _ is (eq-eqb (group_of reason) g e)

  by_test : (b : Bool) → (group_of reason == g) ≡ b →
      (IsIn g (groups_of reasons) → (group_of (pick reasons other g) ≡ g) × IsIn (pick reasons other g) reasons) →
      IsIn g (groups_of (reason ∷ reasons)) →
      (group_of (cond b reason (pick reasons other g)) ≡ g) × IsIn (cond b reason (pick reasons other g)) (reason ∷ reasons)
  by_test true is later i = (eqb-true (group_of reason) g is, inl refl)
  by_test false is later (inl e) = absurd (apart is e)
  by_test false is later (inr rest) = let found = later rest in (found.0, inr found.1)

-- one result is one scenario
pub same_made : (made : Result Scenario ScenarioFault) (one other : Scenario) → made ≡ Ok one → made ≡ Ok other → one ≡ other
same_made (Ok made) one other is too = cc
same_made (Err fault) one other is too = absurd cc

module _ (have : ScenariosHaveDrafts) (given : DraftsGiveScenarios) (give : RelistedDraftsGiveScenarios) (renumbered : RelistedDraftsAreRenumbered)
    (scenario : Scenario) (well : IsScenario scenario) where
  pub same_in : (order : List ℕ) → IsOrder scenario order →
      IsRenumbered (number_in (names_of scenario order) scenario.groups) (number_in scenario.groups (names_of scenario order)) scenario (in_order scenario order)
  same_in order is = renumbered (draft_for scenario) (names_of scenario order) scenario (in_order scenario order) (of_one_draft have give scenario order well is)

  pub well_in : (order : List ℕ) → IsOrder scenario order → IsScenario (in_order scenario order)
  well_in order is = given (relisted (names_of scenario order) (draft_for scenario)) (in_order scenario order) (is_listed have give scenario order well is)

-- the target of a reason is so late in the order of the reason
held_up : ScenariosHaveDrafts → DraftsGiveScenarios → RelistedDraftsGiveScenarios → RelistedDraftsAreRenumbered →
    (settings : Settings) (scenario : Scenario) (targets : List Target) (groups : List ℕ) (reason : Reason) → IsScenario scenario → MayBeTarget scenario reason.target →
    IsReason settings None scenario targets groups reason → IsHeldUp scenario groups reason.target.message (group_of reason) reason.spread.least
held_up have given give renumbered settings scenario targets groups reason well may_be is =
    let made = is_listed have give (asked_of scenario reason.target) reason.order.items (well_asked scenario reason.target well may_be) is.is in
    let instance : is.found.instance ≡ in_order (asked_of scenario reason.target) reason.order.items = same_made (listed (asked_of scenario reason.target) reason.order.items) _ _ is.found.made made in
    record {
      renumber = number_in (names_of scenario reason.order.items) scenario.groups;
      back = number_in scenario.groups (names_of scenario reason.order.items);
      listed = in_order scenario reason.order.items;
      well = well_in have given give renumbered scenario well reason.order.items is.is;
      is = same_in have given give renumbered scenario well reason.order.items is.is;
      goes = may_be.addressed;
      behind = λ h goes later.
          behind_among scenario reason.order.items is.is (same_in have given give renumbered scenario well reason.order.items is.is) is.ahead is.behind groups (group_of reason) h is.split is.among
          (group_known scenario well reason.target.message h goes) later;
      run = late_in have give renumbered scenario reason.order.items reason.target well may_be is.is reason.spread.least reason.spread.least (omega arith)
          (subst (λ (s : Scenario). IsReached s reason.spread.least) instance (reached_least settings is.found.instance reason.spread is.found.found));
    }

-- the reason for that one of the groups which is listed first
module _ (have : ScenariosHaveDrafts) (given : DraftsGiveScenarios) (give : RelistedDraftsGiveScenarios) (renumbered : RelistedDraftsAreRenumbered)
    (formed : AroundIsScenario) (agree : RenumberedRunsAgree) (later : FewerBehindIsNoLater)
    (settings : Settings) (span : Option ℕ) (short : IfSome span (λ n. IsTrue (is_span n))) (scenario : Scenario) (targets : List Target) (well : IsScenario scenario)
    (may : (target : Target) → Contains targets target → MayBeTarget scenario target) (order : List ℕ) (is : IsOrder scenario order) where
  exceeded_by : (groups : List ℕ) (reason : Reason) (least : Excess) → IsReason settings span scenario targets groups reason
      → ((h : ℕ) → Contains groups h → number_in (names_of scenario order) scenario.groups (group_of reason) ≤ number_in (names_of scenario order) scenario.groups h)
      → IsAtMost least (excess_of_reason reason) → IsExceededIn span scenario targets order least
  exceeded_by groups reason least told first at_most =
      let target : Target = reason.target in
      let base : Scenario = asked_at span scenario target in
      let may_be = may target told.of_target in
      let well_base = well_at formed span short scenario target well may_be in
      let may_base = may_at formed span short scenario target well may_be in
      let is_base = order_at span scenario target order is in
      let held = held_up have given give renumbered settings base targets groups reason well_base may_base
      (reason_there settings span scenario targets groups reason told) in
      let late = late_too agree later (number_in (names_of base order) base.groups) (number_in base.groups (names_of base order)) base (in_order base order) well_base
      (well_in have given give renumbered base well_base order is_base) (same_in have given give renumbered base well_base order is_base)
      groups target.message target.group reason.spread.least
      (λ h among. subst (λ (number : ℕ → ℕ). number target.group ≤ number h) (sym (numbers_at span scenario target order)) (first h among)) held in
      let past = reached_in have give renumbered base order target well_base may_base is_base reason.spread.least late in
      let low = past.2 in
      record {
        target = target;
        of_target = told.of_target;
        instance = in_order (asked_of base target) order;
        made = subst (λ (s : Scenario). listed s order ≡ Ok (in_order (asked_of base target) order)) (again span scenario target)
            (is_listed have give (asked_of base target) order (well_asked base target well_base may_base) is_base);
        latency = past.0;
        reached = past.1;
        exceeds = omega (arith, at_most, low);
      }

pub no_better : ScenariosHaveDrafts → DraftsGiveScenarios → RelistedDraftsGiveScenarios → RelistedDraftsAreRenumbered
    → AroundIsScenario → RenumberedRunsAgree → FewerBehindIsNoLater → NoOrderIsBetter
no_better have given give renumbered formed agree later settings span scenario targets best order well may short is other_is = by_reasons best.reasons.items refl where
  by_reasons : (reasons : List Reason) → best.reasons.items ≡ reasons → IsExceededIn span scenario targets order best.least
  by_reasons [] e = absurd (let some = is.reasons.some in let none = ap length e in omega (arith, some, none))
  by_reasons (first ∷ rest) e =
      let reasons : List Reason = best.reasons.items in
      let groups : List ℕ = groups_of reasons in
      let number : ℕ → ℕ = number_in (names_of scenario order) scenario.groups in
      let one = first_of number groups (subst (λ n. 0 < n) (sym (length-map reasons group_of)) is.reasons.some) in
      let found = pick_is reasons first one.0 one.1 in
      let reason : Reason = pick reasons first one.0 in
      exceeded_by have given give renumbered formed agree later settings span short scenario targets well may order other_is groups reason best.least
      (all-in (IsReason settings span scenario targets groups) reason reasons is.reasons.all found.1)
      (λ h among. subst (λ g. number g ≤ number h) (sym found.0) (one.2 h (in_of_contains h groups among)))
      (all-in (IsAtMost best.least) (excess_of_reason reason) (map excess_of_reason reasons) is.least.none_less (in-map excess_of_reason reason reasons found.1))

pub best_keeps : BestOrderKeeps
best_keeps settings span scenario targets best target is of_target =
    let rows : List Row = best.rows.items in
    let found = in_of_map target_of target rows (subst (IsIn target) (sym is.rows.of_targets) (in_of_contains target targets of_target)) in
    let row : Row = found.0 in
    let told = all-in (IsRow settings span scenario best.order.items) row rows is.rows.all found.1 in
    subst (IsKeptIn span scenario best.order.items best.most) found.2
    (record {
      instance = told.after.instance;
      made = told.after.made;
      latency = row.after.most;
      upper = upper_most settings told.after.instance row.after told.after.found;
      keeps = all-in (λ (excess : Excess). IsAtMost excess best.most) (excess_of_row row) (map excess_of_row rows) is.most.none_greater (in-map excess_of_row row rows found.1);
    })

-- ---- THE ORDER THAT IS TOLD
exceeded_less : (span : Option ℕ) (scenario : Scenario) (targets : List Target) (order : List ℕ) (least more : Excess) → IsAtMost least more
    → IsExceededIn span scenario targets order more → IsExceededIn span scenario targets order least
exceeded_less span scenario targets order least more low is = record {
  target = is.target;
  of_target = is.of_target;
  instance = is.instance;
  made = is.made;
  latency = is.latency;
  reached = is.reached;
  exceeds = let past = is.exceeds in omega (arith, past, low);
}

pub best_is_exact : NoOrderIsBetter → BestOrderIsExact
best_is_exact better settings span scenario targets best order well may short is other_is =
    elim is.exact [
      | inl low ↦ inl (exceeded_less span scenario targets order best.most best.least low (better settings span scenario targets best order well may short is other_is))
      | inr may_open ↦ inr may_open
    ]
