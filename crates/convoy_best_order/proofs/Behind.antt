-- What a target keeps does not depend on the order of the groups behind its own.
use Rattle.std.proofs.Common.{◌≡◌, ℕ, ◌<◌, List, ◌++◌, length, get_or, None, inl, inr, sym, ap, subst, ◌∙◌, arith}
use Rattle.std.specs.List.{Contains}
use Rattle.std.proofs.lemmas.Bool.{cases_lt}
use Rattle.std.proofs.lemmas.List.{get_or_append_left, get_or_default, length-append}
use Rattle.convoy_around.specs.AroundLaws.{AroundIsScenario}
use Rattle.convoy_scenario.specs.Scenario.{Scenario}
use Rattle.convoy_scenario.specs.ScenarioLaws.{DraftsGiveScenarios, ScenariosHaveDrafts}
use Rattle.convoy_scenario.specs.WellFormed.{IsScenario}
use Rattle.convoy_sim.specs.Greatest.{IsUpper}
use Rattle.convoy_orders.specs.GreatestAt.{IsUpperAt}
use Rattle.convoy_orders.specs.ListedOrder.{FewerBehindIsNoSlower, NoMoreAreBehind}
use Rattle.convoy_orders.specs.Relisted.{RelistedDraftsAreRenumbered, RelistedDraftsGiveScenarios, number_in}
use Rattle.convoy_orders.specs.Renumbered.{IsRenumbered}
use Rattle.convoy_orders.proofs.Composed.{composed}
use Rattle.convoy_orders.proofs.SameParts.{goes_back, goes_there, turned}
use Rattle.convoy_best_order.specs.declared.excess.Excess.{Excess}
use Rattle.convoy_best_order.specs.declared.target.Target.{Target}
use Rattle.convoy_best_order.specs.OrderLaws.{IsKeptIn, OrderBehindIsFree}
use Rattle.convoy_best_order.specs.Orders.{IsOrder, listed, names_of}
use Rattle.convoy_best_order.specs.Targets.{MayBeTarget, asked_at, asked_of}
use Rattle.convoy_best_order.proofs.Around.{kept_here, kept_there, may_at, order_at, well_at}
use Rattle.convoy_best_order.proofs.Asking.{upper_from, upper_in, well_asked}
use Rattle.convoy_best_order.proofs.Better.{group_known, same_in, same_made, stands, stands_at, well_in}
use Rattle.convoy_best_order.proofs.Relisting.{in_order, is_listed}

-- the number of a group in an order
abbrev number_of : Scenario → List ℕ → ℕ → ℕ
number_of scenario order = number_in (names_of scenario order) scenario.groups

abbrev back_of : Scenario → List ℕ → ℕ → ℕ
back_of scenario order = number_in scenario.groups (names_of scenario order)

-- they are one but for the numbers of the groups
abbrev IsSameIn : Scenario → List ℕ → Type 0
IsSameIn scenario order = IsRenumbered (number_of scenario order) (back_of scenario order) scenario (in_order scenario order)

-- a group ahead has the number of its place, whatever stands behind
ahead_at : (scenario : Scenario) (ahead behind : List ℕ) (is : IsOrder scenario (ahead ++ behind)) → IsSameIn scenario (ahead ++ behind) → (k : ℕ) → k < length ahead
    → number_of scenario (ahead ++ behind) (get_or ahead k 0) ≡ k
ahead_at scenario ahead behind is same k l =
    let long = length-append ahead behind in
    ap (number_of scenario (ahead ++ behind)) (sym (get_or_append_left ahead behind 0 k l)) ∙ stands_at scenario (ahead ++ behind) is same k (omega (arith, l, long))

-- what stands behind a group that is ahead does so where the groups behind are in another order
module _ (scenario : Scenario) (ahead behind others : List ℕ) (is : IsOrder scenario (ahead ++ behind)) (other_is : IsOrder scenario (ahead ++ others))
    (same : IsSameIn scenario (ahead ++ behind)) (other_same : IsSameIn scenario (ahead ++ others)) where
  abbrev number : ℕ → ℕ
  number = number_of scenario (ahead ++ behind)

  abbrev other_number : ℕ → ℕ
  other_number = number_of scenario (ahead ++ others)

  still_behind : (g h : ℕ) → Contains ahead g → h < length scenario.groups → other_number g < other_number h → number g < number h
  still_behind g h (k, l, e) known later =
      let at : get_or ahead k 0 ≡ g = get_or_default ahead k 0 g l ∙ e in
      let here : number g ≡ k = ap number (sym at) ∙ ahead_at scenario ahead behind is same k l in
      let there : other_number g ≡ k = ap other_number (sym at) ∙ ahead_at scenario ahead others other_is other_same k l in
      elim (cases_lt (number g) (number h)) [
        | inl less ↦ less
        | inr most ↦ absurd (
            let within : number h < length ahead = omega (arith, most, here, l) in
            let found : get_or ahead (number h) 0 ≡ h =
            sym (get_or_append_left ahead behind 0 (number h) within) ∙ stands scenario (ahead ++ behind) is same h known in
            let again : other_number h ≡ number h = ap other_number (sym found) ∙ ahead_at scenario ahead others other_is other_same (number h) within in
            omega (arith, again, there, here, most, later))
      ]

-- so it is of the scenario with that target
free_behind : ScenariosHaveDrafts → DraftsGiveScenarios → RelistedDraftsGiveScenarios → RelistedDraftsAreRenumbered → FewerBehindIsNoSlower
    → (scenario : Scenario) (target : Target) (ahead behind others : List ℕ) (most : Excess) → IsScenario scenario → MayBeTarget scenario target
    → IsOrder scenario (ahead ++ behind) → IsOrder scenario (ahead ++ others) → Contains ahead target.group
    → IsKeptIn None scenario (ahead ++ behind) most target → IsKeptIn None scenario (ahead ++ others) most target
free_behind have given give renumbered slower scenario target ahead behind others most well may is other_is among kept = record {
  instance = in_order (asked_of scenario target) other;
  made = is_listed have give (asked_of scenario target) other (well_asked scenario target well may) other_is;
  latency = kept.latency;
  upper = upper_from have give renumbered scenario other target well may other_is kept.latency
      (subst (λ n. IsUpperAt (in_order scenario other) target.message n kept.latency) (ap there (same.back_again target.group))
      (slower (λ h. there (back_of scenario order h)) (λ h. here (back_of scenario other h)) (in_order scenario order) (in_order scenario other) target.message (here target.group)
      kept.latency (well_in have given give renumbered scenario well order is) (well_in have given give renumbered scenario well other other_is)
      (composed (back_of scenario order) here there (back_of scenario other) (in_order scenario order) scenario (in_order scenario other)
      (turned here (back_of scenario order) scenario (in_order scenario order) same) other_same)
      (goes_there here (back_of scenario order) scenario (in_order scenario order) same target.message target.group may.addressed) no_more upper));
  keeps = kept.keeps;
} where
  order : List ℕ
  order = ahead ++ behind

  other : List ℕ
  other = ahead ++ others

  here : ℕ → ℕ
  here = number_of scenario order

  there : ℕ → ℕ
  there = number_of scenario other

  same : IsSameIn scenario order
  same = same_in have given give renumbered scenario well order is

  other_same : IsSameIn scenario other
  other_same = same_in have given give renumbered scenario well other other_is

  instance : kept.instance ≡ in_order (asked_of scenario target) order
  instance =
      same_made (listed (asked_of scenario target) order) _ _ kept.made
      (is_listed have give (asked_of scenario target) order (well_asked scenario target well may) is)

  upper : IsUpperAt (in_order scenario order) target.message (here target.group) kept.latency
  upper =
      upper_in have give renumbered scenario order target well may is kept.latency (subst (λ (s : Scenario). IsUpper s kept.latency) instance kept.upper)

  no_more : NoMoreAreBehind (λ h. there (back_of scenario order h)) (in_order scenario order) target.message (here target.group)
  no_more h goes later =
      let again = ap there (same.back_again target.group) in
      let known = group_known scenario well target.message (back_of scenario order h) (goes_back here (back_of scenario order) scenario (in_order scenario order) same target.message h goes) in
      let less =
      still_behind scenario ahead behind others is other_is same other_same target.group (back_of scenario order h) among known (omega (arith, again, later)) in
      let at = same.there_again h in
      omega (arith, less, at)

-- and around the target
pub behind_free : AroundIsScenario → ScenariosHaveDrafts → DraftsGiveScenarios → RelistedDraftsGiveScenarios → RelistedDraftsAreRenumbered → FewerBehindIsNoSlower
    → OrderBehindIsFree
behind_free formed have given give renumbered slower span scenario target ahead behind others most well may short is other_is among kept =
    kept_here span scenario (ahead ++ others) most target
    (free_behind have given give renumbered slower (asked_at span scenario target) target ahead behind others most
    (well_at formed span short scenario target well may) (may_at formed span short scenario target well may)
    (order_at span scenario target (ahead ++ behind) is) (order_at span scenario target (ahead ++ others) other_is) among
    (kept_there span scenario (ahead ++ behind) most target kept))
