-- What each target keeps, one group listed after the other, and so that the order is the best.
use Rattle.std.proofs.Common.{All, ◌≡◌, ◌⊎◌, ℕ, ◌<◌, ◌≤◌, Bool, true, false, not, List, [], ◌∷◌, ◌++◌, length, map, get_or, inl, inr, refl, sym, ap, subst, ◌∙◌, append_assoc, append-nil, arith, Option, IfSome, IsTrue}
use Rattle.std.specs.List.{Contains, remove}
use Rattle.std.proofs.lemmas.Bool.{eq-eqb, false≢true}
use Rattle.std.proofs.lemmas.List.{get_or-map}
use Rattle.std.proofs.lemmas.List.Sorted.{Contains-permutation}
use Rattle.std.proofs.lemmas.List.Elements.{All-cons, All-contains, All-head, All-map, All-tail, Contains-get_or, Contains-push_cases}
use Rattle.convoy_around.specs.Around.{is_span}
use Rattle.convoy_scenario.specs.Scenario.{Scenario}
use Rattle.convoy_scenario.specs.WellFormed.{IsScenario}
use Rattle.convoy_sim.specs.Greatest.{IsReached}
use Rattle.convoy_sim.proofs.Membership.{contains-in, in-map, in-range, in_of_contains, in_of_filter, list_any_in}
use Rattle.convoy_branch.specs.Options.{Settings}
use Rattle.convoy_best_order.specs.declared.best.Reason.{Reason}
use Rattle.convoy_best_order.specs.declared.best.Row.{Row}
use Rattle.convoy_best_order.specs.declared.excess.Excess.{Excess}
use Rattle.convoy_best_order.specs.declared.target.Target.{Target}
use Rattle.convoy_best_order.specs.Best.{AreRows, IsRow, excess_of_reason, excess_of_row, target_of}
use Rattle.convoy_best_order.specs.Choices.{AreCosts, AreHeldBy, AreNoWeaker, IsCheapest, IsDear, IsHeldBy, cost_at, costs_of, groups_without, with_next}
use Rattle.convoy_best_order.specs.Excesses.{IsAtMost, IsGreatestOf, IsLeastOf}
use Rattle.convoy_best_order.specs.OrderLaws.{IsKeptIn, OrderBehindIsFree}
use Rattle.convoy_best_order.specs.Orders.{IsOrder, group_numbers, listed}
use Rattle.convoy_best_order.specs.Spreads.{MayStayOpen, least_excess}
use Rattle.convoy_best_order.specs.Targets.{MayBeTarget, asked_at, has_target, is_at}
use Rattle.convoy_best_order.proofs.Asking.{reached_least}
use Rattle.convoy_best_order.proofs.Better.{group_known, same_made}
use Rattle.convoy_best_order.proofs.Kept.{exact_or_open}
use Rattle.convoy_best_order.proofs.Measures.{at_most_after}
use Rattle.convoy_best_order.proofs.Steps.{next_listed}

-- what holds of each element or else another thing does
all_or : {X : Type 0} (P : X → Type 0) (Q : Type 0) (xs : List X) → All (λ x. P x ⊎ Q) xs → All P xs ⊎ Q
all_or P Q [] all = inl (λ k d small. absurd (omega (arith, small)))
all_or {X} P Q (x ∷ xs) all =
    elim (All-head (λ (y : X). P y ⊎ Q) x xs all) [
      | inl first ↦ elim (all_or P Q xs (All-tail (λ (y : X). P y ⊎ Q) x xs all)) [ inl rest ↦ inl (All-cons P x xs first rest) | inr q ↦ inr q ]
      | inr q ↦ inr q
    ]

-- ---- one group listed after the other
-- no group without a target is that of one
pub start_held : (settings : Settings) (span : Option ℕ) (scenario : Scenario) (targets : List Target) (reasons : List Reason) (left : List ℕ)
    → AreHeldBy settings span scenario targets reasons (groups_without targets scenario) left
start_held settings span scenario targets reasons left = inl (λ k d l among. absurd (apart (get_or targets k d) (Contains-get_or targets k d l) among)) where
  twice : (b : Bool) → b ≡ true → not b ≡ true → ⊥
  twice true is not_is = false≢true not_is
  twice false is not_is = false≢true is

  apart : (target : Target) → Contains targets target → Contains (groups_without targets scenario) target.group → ⊥
  apart target of_target among =
      twice (has_target targets target.group)
      (list_any_in (is_at target.group) target targets (in_of_contains target targets of_target) (eq-eqb target.group target.group refl))
      (in_of_filter (λ g. not (has_target targets g)) target.group (group_numbers scenario) (in_of_contains target.group (groups_without targets scenario) among)).1

-- what the cheapest costs is at most the excess of each of the reasons
cheapest_low : (reasons : List Reason) (place : ℕ) → IsCheapest (costs_of reasons) (length reasons) place → All (λ reason. IsAtMost reason.cost (excess_of_reason reason)) reasons
    → All (IsAtMost (cost_at (costs_of reasons) place)) (map excess_of_reason reasons)
cheapest_low reasons place cheapest dear =
    let cost : Excess = cost_at (costs_of reasons) place in
    All-map (IsAtMost cost) excess_of_reason reasons
    (λ j r l.
    at_most_after cost (get_or reasons j r).cost (excess_of_reason (get_or reasons j r))
    (subst (IsAtMost cost) (get_or-map (λ (reason : Reason). reason.cost) reasons j r _ l) (cheapest.least j l)) (dear j r l))

module _ (free : OrderBehindIsFree) (settings : Settings) (span : Option ℕ) (scenario : Scenario) (targets : List Target) (well : IsScenario scenario) (may : All (MayBeTarget scenario) targets)
    (short : IfSome span (λ n. IsTrue (is_span n)))
    (ahead left : List ℕ) (place : ℕ) (within : place < length left) (is : IsOrder scenario (ahead ++ left)) (strongest reasons stronger : List Reason)
    (old : AreNoWeaker strongest stronger) (new : AreNoWeaker reasons stronger) where
  abbrev group : ℕ
  group = get_or left place 0

  abbrev rest : List ℕ
  rest = remove left place

  -- in the next order
  next_in : (excess : Excess) (target : Target) → IsKeptIn span scenario (with_next ahead left place) excess target
      → IsKeptIn span scenario ((ahead ++ group ∷ []) ++ rest) excess target
  next_in excess target kept =
      subst (λ (order : List ℕ). IsKeptIn span scenario order excess target) (sym (append_assoc ahead (group ∷ []) rest)) kept

  -- a target at a group that stood ahead
  held_before : (target : Target) → MayBeTarget scenario target → Contains ahead target.group → IsHeldBy span scenario strongest (ahead ++ left) target
      → IsHeldBy span scenario stronger ((ahead ++ group ∷ []) ++ rest) target
  held_before target may_be among held = record {
    excess = held.excess;
    kept = next_in held.excess target
        (free span scenario target ahead left (group ∷ rest) held.excess well may_be short is (next_listed scenario ahead left place within is) among held.kept);
    within = old held.excess held.within;
  }

  pub next_held : AreHeldBy settings span scenario targets strongest ahead left → AreCosts span scenario targets ahead left (costs_of reasons)
      → All (IsDear settings span scenario targets) reasons → IsCheapest (costs_of reasons) (length reasons) place
      → AreHeldBy settings span scenario targets stronger (ahead ++ group ∷ []) rest
  next_held held costs dear cheapest =
      elim held [
        | inr q ↦ inr q
        | inl held ↦ elim (all_or (λ (reason : Reason). IsAtMost reason.cost (excess_of_reason reason)) (MayStayOpen settings span scenario targets) reasons dear) [
          | inr q ↦ inr q
          | inl dear ↦ inl (λ k d l among. elim (Contains-push_cases ahead group (get_or targets k d).group among) [
            | inl before ↦ held_before (get_or targets k d) (may k d l) before (held k d l before)
            | inr at ↦ record {
              excess = cost_at (costs_of reasons) place;
              kept = next_in (cost_at (costs_of reasons) place) (get_or targets k d) (costs place within k d l (sym at));
              within = new (cost_at (costs_of reasons) place) (cheapest_low reasons place cheapest dear);
            }
          ])
        ]
      ]

-- where all groups stand ahead
pub all_held : (settings : Settings) (span : Option ℕ) (scenario : Scenario) (targets : List Target) (reasons : List Reason) (ahead left : List ℕ) → IsScenario scenario
    → All (MayBeTarget scenario) targets → left ≡ [] → IsOrder scenario (ahead ++ left) → AreHeldBy settings span scenario targets reasons ahead left
    → All (IsHeldBy span scenario reasons ahead) targets ⊎ MayStayOpen settings span scenario targets
all_held settings span scenario targets reasons ahead left well may none is (inr q) = inr q
all_held settings span scenario targets reasons ahead left well may none is (inl held) = inl (λ k d l. here (get_or targets k d) (may k d l) (held k d l)) where
  all : ahead ++ left ≡ ahead
  all = ap (λ (gs : List ℕ). ahead ++ gs) none ∙ append-nil ahead

  here : (target : Target) → MayBeTarget scenario target → (Contains ahead target.group → IsHeldBy span scenario reasons (ahead ++ left) target) → IsHeldBy span scenario reasons ahead target
  here target may_be then =
      let known = group_known scenario well target.message target.group may_be.addressed in
      let number = contains-in target.group (group_numbers scenario) (in-range target.group 0 (length scenario.groups) (omega arith) (omega (arith, known))) in
      subst (λ (order : List ℕ). IsHeldBy span scenario reasons order target) all
      (then (Contains-permutation (group_numbers scenario) ahead target.group (subst (IsOrder scenario) all is) number))

-- ---- the stronger reasons
pub no_weaker : (reasons others : List Reason) (least other_least : Excess) → IsLeastOf (map excess_of_reason reasons) least
    → IsLeastOf (map excess_of_reason others) other_least → IsAtMost least other_least → AreNoWeaker reasons others
no_weaker reasons others least other_least is other_is low excess all k d l =
    let first = All-contains (IsAtMost excess) (map excess_of_reason reasons) least all is.one_of in
    at_most_after excess other_least (get_or (map excess_of_reason others) k d) (at_most_after excess least other_least first low) (other_is.none_less k d l)

-- ---- the best order
module _ (settings : Settings) (span : Option ℕ) (scenario : Scenario) (targets : List Target) (order : List ℕ) (rows : List Row) (reasons : List Reason) (least most : Excess)
    (is : IsOrder scenario order) (are : AreRows settings span scenario targets order rows) (is_most : IsGreatestOf (map excess_of_row rows) most)
    (is_least : IsLeastOf (map excess_of_reason reasons) least) where
  of_target : (row : Row) → Contains rows row → Contains targets row.target
  of_target row among =
      subst (λ (ts : List Target). Contains ts row.target) are.of_targets
      (contains-in row.target (map target_of rows) (in-map target_of row rows (in_of_contains row rows among)))

  -- the latency that a schedule of the row reaches is kept
  row_low : (row : Row) → IsRow settings span scenario order row → IsAtMost (excess_of_row row) (least_excess row.target row.after) → IsHeldBy span scenario reasons order row.target
      → IsAtMost (excess_of_row row) least
  row_low row told ended held =
      let kept = held.kept in
      let same : told.after.instance ≡ kept.instance = same_made (listed (asked_at span scenario row.target) order) _ _ told.after.made kept.made in
      let run : IsReached kept.instance row.after.least =
      subst (λ (s : Scenario). IsReached s row.after.least) same (reached_least settings told.after.instance row.after told.after.found) in
      let low : row.after.least ≤ kept.latency = subst (λ n. n ≤ kept.latency) run.2 (kept.upper run.0 run.1) in
      let keeps = kept.keeps in
      let within = All-contains (IsAtMost held.excess) (map excess_of_reason reasons) least held.within is_least.one_of in
      omega (arith, ended, low, keeps, within)

  pub best_exact : All (IsHeldBy span scenario reasons order) targets ⊎ MayStayOpen settings span scenario targets → IsAtMost most least ⊎ MayStayOpen settings span scenario targets
  best_exact (inr q) = inr q
  best_exact (inl held) =
      let open_search = MayStayOpen settings span scenario targets in
      elim (all_or (λ (row : Row). IsAtMost (excess_of_row row) least) open_search rows (λ k d l.
      let row : Row = get_or rows k d in
      let among = of_target row (Contains-get_or rows k d l) in
      elim (exact_or_open settings span scenario targets order row.target row.after among is (are.all k d l).after) [
        | inl ended ↦ inl (row_low row (are.all k d l) ended (All-contains (IsHeldBy span scenario reasons order) targets row.target held among))
        | inr q ↦ inr q
      ])) [
        | inl all ↦ inl (All-contains (λ (excess : Excess). IsAtMost excess least) (map excess_of_row rows) most
            (All-map (λ (excess : Excess). IsAtMost excess least) excess_of_row rows all) is_most.one_of)
        | inr q ↦ inr q
      ]
