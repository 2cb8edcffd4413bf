-- Schedules for some groups show that no order is below an excess.
use Rattle.std.proofs.Common.{◌≡◌, ℕ, ◌<◌, ◌==◌, nat_lt, Bool, true, false, cond, not, List, [], ◌∷◌, length, map, Option, Some, None, option_map, unwrap_or, Result, Ok, Err, inl, inr, refl, sym, ap, subst, eqb-true, ltb-true, arith}
use Rattle.std.specs.List.{list_all}
use Rattle.std.proofs.lemmas.Bool.{and_parts, both_ways, eq-eqb, false≢true}
use Rattle.std.proofs.lemmas.List.{length-map}
use Rattle.std.proofs.lemmas.List.Elements.{Contains-get_or}
use Rattle.convoy_draft.specs.declared.fault.ScenarioFault.{ScenarioFault}
use Rattle.convoy_scenario.specs.Scenario.{Scenario}
use Rattle.convoy_scenario.specs.WellFormed.{IsScenario}
use Rattle.convoy_packets.specs.Assignment.{Schedule}
use Rattle.convoy_sim.specs.Delivery.{latency_of}
use Rattle.convoy_sim.specs.Greatest.{IsReached}
use Rattle.convoy_sim.proofs.Membership.{IsIn, contains-in, in_of_contains}
use Rattle.convoy_orders.specs.AllOrders.{IsHeldUp}
use Rattle.convoy_orders.specs.GreatestAt.{IsLate}
use Rattle.convoy_orders.specs.Relisted.{number_in}
use Rattle.convoy_best_order.specs.declared.excess.Excess.{Excess}
use Rattle.convoy_best_order.specs.declared.target.Target.{Target}
use Rattle.convoy_best_order.specs.Excesses.{IsAtMost}
use Rattle.convoy_best_order.specs.OrderLaws.{IsExceededIn}
use Rattle.convoy_best_order.specs.Orders.{IsOrder, listed, names_of}
use Rattle.convoy_best_order.specs.Targets.{MayBeTarget, asked_of, limit_of}
use Rattle.convoy_best_order.proofs.Asking.{late_in, reached_in, well_asked}
use Rattle.convoy_best_order.proofs.Better.{behind_among, group_known, same_in, same_made, well_in}
use Rattle.convoy_best_order.proofs.Measures.{at_most_of}
use Rattle.convoy_best_order.proofs.Relisting.{in_order, is_listed}
use Rattle.convoy_best_plan.specs.BestPlans.{IsExceeded}
use Rattle.convoy_best_plan.proofs.LastListed.{Used}
use Rattle.convoy_plan_certificate.specs.declared.branch.Witness.{Witness}
use Rattle.convoy_plan_certificate.specs.Schedules.{schedule_in}
use Rattle.convoy_plan_certificate.proofs.Assigned.{schedule_is}
use Rattle.convoy_plan_checker.specs.Lateness.{are_late, is_late, is_late_in, is_order, is_past, latency_in, others, target_at, witness_groups, witness_order, without}
use Rattle.convoy_plan_checker.proofs.Orders.{among_behind, each_passes, order_is}

-- ---- ONE WITNESS
-- the scenario is made, and some schedule of it is so late
pub record IsSeen (made : Result Scenario ScenarioFault) (latency : ℕ) (least : Excess) (target : Target) : Type 0 where
  pub instance : Scenario
  pub is : made ≡ Ok instance
  pub reached : IsReached instance latency
  pub past : IsAtMost least (record { latency = latency; limit = limit_of target })

not_less : (b : Bool) → not b ≡ true → b ≡ false
not_less false e = refl
not_less true e = absurd (false≢true e)

seen : (made : Result Scenario ScenarioFault) (witness : Witness) (least : Excess) (target : Target) → is_past least target (latency_in made witness) ≡ true
    → IsSeen made (unwrap_or (latency_in made witness) 0) least target
seen (Err fault) witness least target is = absurd (false≢true is)
seen (Ok instance) witness least target is = by_schedule (schedule_in instance witness) refl is where
  by_schedule : (found : Option Schedule) → schedule_in instance witness ≡ found → is_past least target (option_map (latency_of instance) found) ≡ true
      → IsSeen (Ok instance) (unwrap_or (option_map (latency_of instance) found) 0) least target
  by_schedule None same past = absurd (false≢true past)
  by_schedule (Some schedule) same past = record {
    instance = instance;
    is = refl;
    reached = (schedule, schedule_is instance witness schedule same, refl);
    past = at_most_of (record { latency = latency_of instance schedule; limit = limit_of target }) least (not_less _ past);
  }

-- ---- THE WITNESS OF A GROUP
module _ {A : Type 0} (group_of : A → ℕ) where
  -- the first of them that is for the group
  abbrev pick : List A → A → ℕ → A
  pick [] other g = other
  pick (x ∷ xs) other g = cond (group_of x == g) x (pick xs other g)

  pick_is : (xs : List A) (other : A) (g : ℕ) → IsIn g (map group_of xs) → (group_of (pick xs other g) ≡ g) × IsIn (pick xs other g) xs
  pick_is [] other g i = absurd i
  pick_is (x ∷ xs) other g i = by_test (group_of x == g) refl (λ rest. pick_is xs other g rest) i where
    apart : (group_of x == g) ≡ false → group_of x ≡ g → ⊥
    apart is e = both_ways _ is (eq-eqb (group_of x) g e)

    by_test : (b : Bool) → (group_of x == g) ≡ b →
        (IsIn g (map group_of xs) → (group_of (pick xs other g) ≡ g) × IsIn (pick xs other g) xs) →
        IsIn g (map group_of (x ∷ xs)) →
        (group_of (cond b x (pick xs other g)) ≡ g) × IsIn (cond b x (pick xs other g)) (x ∷ xs)
    by_test true is later i = (eqb-true (group_of x) g is, inl refl)
    by_test false is later (inl e) = absurd (apart is e)
    by_test false is later (inr rest) = let found = later rest in (found.0, inr found.1)

-- ---- ALL OF THEM
module _ (used : Used) (scenario : Scenario) (targets : List Target) (least : Excess) (witnesses : List Witness) (well : IsScenario scenario)
    (may : (target : Target) → IsIn target targets → MayBeTarget scenario target) where
  abbrev groups : List ℕ
  groups = witness_groups targets witnesses

  abbrev target_for : Witness → Target
  target_for witness = target_at targets witness.target

  abbrev group_for : Witness → ℕ
  group_for witness = (target_for witness).group

  abbrev order_for : Witness → List ℕ
  order_for witness = witness_order scenario groups (group_for witness)

  abbrev made_for : Witness → Result Scenario ScenarioFault
  made_for witness = listed (asked_of scenario (target_for witness)) (order_for witness)

  abbrev latency_for : Witness → ℕ
  latency_for witness = unwrap_or (latency_in (made_for witness) witness) 0

  -- what is known of a witness that is late
  record IsGood (witness : Witness) : Type 0 where
    of_target : IsIn (target_for witness) targets
    order : IsOrder scenario (order_for witness)
    seen_is : IsSeen (made_for witness) (latency_for witness) least (target_for witness)

  good : (witness : Witness) → is_late scenario targets least groups witness ≡ true → IsGood witness
  good witness is =
      let parts = and_parts (nat_lt witness.target (length targets)) (is_late_in scenario least (target_for witness) (order_for witness) witness) is in
      let inner = and_parts (is_order scenario (order_for witness)) (is_past least (target_for witness) (latency_in (made_for witness) witness)) parts.1 in
      record {
        of_target = in_of_contains (target_for witness) targets (Contains-get_or targets witness.target _ (ltb-true witness.target (length targets) parts.0));
        order = order_is scenario (order_for witness) inner.0;
        seen_is = seen (made_for witness) witness least (target_for witness) inner.1;
      }

  held_up : (witness : Witness) → IsGood witness → IsHeldUp scenario groups (target_for witness).message (group_for witness) (latency_for witness)
  held_up witness is =
      let target : Target = target_for witness in
      let order : List ℕ = order_for witness in
      let may_be = may target is.of_target in
      let made = is_listed used.have used.give (asked_of scenario target) order (well_asked scenario target well may_be) is.order in
      let one : is.seen_is.instance ≡ in_order (asked_of scenario target) order = same_made (made_for witness) _ _ is.seen_is.is made in
      record {
        renumber = number_in (names_of scenario order) scenario.groups;
        back = number_in scenario.groups (names_of scenario order);
        listed = in_order scenario order;
        well = well_in used.have used.given used.give used.renumbered scenario well order is.order;
        is = same_in used.have used.given used.give used.renumbered scenario well order is.order;
        goes = may_be.addressed;
        behind = λ h goes later.
            behind_among scenario order is.order (same_in used.have used.given used.give used.renumbered scenario well order is.order) (others scenario groups)
            (without groups target.group) groups target.group h refl (among_behind groups target.group) (group_known scenario well target.message h goes) later;
        run = late_in used.have used.give used.renumbered scenario order target well may_be is.order (latency_for witness) (latency_for witness) (omega arith)
            (subst (λ (s : Scenario). IsReached s (latency_for witness)) one is.seen_is.reached);
      }

  exceeded_by : (order : List ℕ) → IsOrder scenario order → (witness : Witness) → IsGood witness
      → IsLate (in_order scenario order) (target_for witness).message (number_in (names_of scenario order) scenario.groups (group_for witness)) (latency_for witness)
      → IsExceededIn None scenario targets order least
  exceeded_by order in_order_is witness is late =
      let target : Target = target_for witness in
      let may_be = may target is.of_target in
      let run = reached_in used.have used.give used.renumbered scenario order target well may_be in_order_is (latency_for witness) late in
      let low = run.2 in
      let past = is.seen_is.past in
      record {
        target = target;
        of_target = contains-in target targets is.of_target;
        instance = in_order (asked_of scenario target) order;
        made = is_listed used.have used.give (asked_of scenario target) order (well_asked scenario target well may_be) in_order_is;
        latency = run.0;
        reached = run.1;
        exceeds = omega (arith, past, low);
      }

  late_all : ((witness : Witness) → IsIn witness witnesses → IsGood witness) → 0 < length witnesses → IsExceeded scenario targets least
  late_all each some order in_order_is = by_first witnesses refl where
    by_first : (ws : List Witness) → witnesses ≡ ws → IsExceededIn None scenario targets order least
    by_first [] e = absurd (omega (arith, some, ap length e))
    by_first (first ∷ rest) e =
        let chosen : ℕ → Witness = λ g. pick group_for witnesses first g in
        let number : ℕ → ℕ = number_in (names_of scenario order) scenario.groups in
        let late = used.below number (number_in scenario.groups (names_of scenario order)) scenario (in_order scenario order) groups
        (λ g. (target_for (chosen g)).message) (λ g. latency_for (chosen g)) well
        (well_in used.have used.given used.give used.renumbered scenario well order in_order_is)
        (same_in used.have used.given used.give used.renumbered scenario well order in_order_is)
        (subst (λ n. 0 < n) (sym (length-map witnesses group_for)) some)
        (λ g among.
        let found = pick_is group_for witnesses first g (in_of_contains g groups among) in
        subst (λ h. IsHeldUp scenario groups (target_for (chosen g)).message h (latency_for (chosen g))) found.0
        (held_up (chosen g) (each (chosen g) found.1))) in
        let found = pick_is group_for witnesses first late.0 (in_of_contains late.0 groups late.1) in
        let witness : Witness = chosen late.0 in
        exceeded_by order in_order_is witness (each witness found.1)
        (subst (λ h. IsLate (in_order scenario order) (target_for witness).message (number h) (latency_for witness)) (sym found.0) late.2)

  pub exceeded : are_late scenario targets least witnesses ≡ true → IsExceeded scenario targets least
  exceeded is =
      let parts = and_parts (nat_lt 0 (length witnesses)) (list_all (is_late scenario targets least groups) witnesses) is in
      late_all (λ w i. good w (each_passes (is_late scenario targets least groups) w witnesses parts.1 i)) (ltb-true 0 (length witnesses) parts.0)
