-- The schedule of a witness is one of its scenario.
use Rattle.std.proofs.Common.{◌≡◌, ℕ, ◌≤◌, ◌==◌, All, Bool, true, false, cond, ◌&&◌, ◌||◌, not, List, [], ◌∷◌, length, leb-true, Option, Some, None, inl, inr, refl, sym, ap, subst, ◌∙◌, eqb-true}
use Rattle.std.specs.Prelude.{nat_le}
use Rattle.std.specs.List.{list_all}
use Rattle.std.proofs.lemmas.Bool.{and_parts, cases_Bool, or_cases}
use Rattle.std.proofs.lemmas.List.{nil_from_length}
use Rattle.std.proofs.lemmas.List.Sums.{AllPass-from_list_all}
use Rattle.std.proofs.lemmas.Option.{none-some, same_Some}
use Rattle.convoy_draft.specs.declared.time.Time.{Time}
use Rattle.convoy_draft.specs.declared.time.Time.TheVariants.{Ticks, Real}
use Rattle.convoy_scenario.specs.Scenario.{Scenario}
use Rattle.convoy_packets.specs.declared.order.TheConstants.{GREATEST_RANK}
use Rattle.convoy_packets.specs.Assignment.{IsAssignment, Schedule, ranges_of}
use Rattle.convoy_packets.specs.Order.{IsOrder, Order, no_order}
use Rattle.convoy_packets.specs.OrderLists.{AreSmall, is_no_order, order_of, rank_count}
use Rattle.convoy_packets.proofs.OrderLists.{list_is_order, no_list}
use Rattle.convoy_packets.proofs.Orders.{fixed_is_order}
use Rattle.convoy_certificate.specs.Reading.{is_assignment, is_order_list}
use Rattle.convoy_certificate.proofs.Assigned.{within}
use Rattle.convoy_plan_certificate.specs.declared.branch.Witness.{Witness}
use Rattle.convoy_plan_certificate.specs.Schedules.{order_in, schedule_in, with_order}

small_ranks : (ranks : List ℕ) → list_all (λ rank. nat_le rank GREATEST_RANK) ranks ≡ true → AreSmall ranks
small_ranks ranks all k d l = leb-true _ _ (AllPass-from_list_all (λ rank. nat_le rank GREATEST_RANK) ranks all k d l)

-- what passes the test for ranks gives an order in real time
listed_order : (scenario : Scenario) (ranks : List ℕ) → scenario.time ≡ Real → is_order_list scenario ranks ≡ true → IsOrder scenario (order_of scenario ranks)
listed_order scenario ranks real is =
    let small : List ℕ → Bool = λ (rs : List ℕ). list_all (λ rank. nat_le rank GREATEST_RANK) rs in
    elim (or_cases (length ranks == 0) _ is) [
      | inl empty ↦
          let nil : ranks ≡ [] = nil_from_length ranks (eqb-true _ _ empty) in
          subst (IsOrder scenario) (sym (ap (order_of scenario) nil ∙ no_list scenario)) (fixed_is_order scenario)
      | inr some ↦
          let parts = and_parts ((length ranks == rank_count scenario) && small ranks) (not (is_no_order (order_of scenario ranks))) some in
          let fit = and_parts (length ranks == rank_count scenario) (small ranks) parts.0 in
          list_is_order scenario ranks real (small_ranks ranks fit.1)
    ]

pub order_is : (scenario : Scenario) (time : Time) (ranks : List ℕ) (order : Order) → scenario.time ≡ time → order_in time scenario ranks ≡ Some order → IsOrder scenario order
order_is scenario Ticks ranks order same is = elim (cases_Bool (length ranks == 0)) [
  | inl empty ↦
      let fixed : no_order ≡ order = same_Some no_order order (rw empty at is) in
      subst (IsOrder scenario) fixed (fixed_is_order scenario)
  | inr some ↦ absurd (none-some order (rw some at is))
]
order_is scenario Real ranks order same is = elim (cases_Bool (is_order_list scenario ranks)) [
  | inl fits ↦
      let given : order_of scenario ranks ≡ order = same_Some (order_of scenario ranks) order (rw fits at is) in
      subst (IsOrder scenario) given (listed_order scenario ranks same fits)
  | inr other ↦ absurd (none-some order (rw other at is))
]

pub schedule_is : (scenario : Scenario) (witness : Witness) (schedule : Schedule) → schedule_in scenario witness ≡ Some schedule → IsAssignment scenario schedule
schedule_is scenario witness schedule is = by_test (is_assignment scenario witness.delays.items) refl is where
  by_order : is_assignment scenario witness.delays.items ≡ true → (found : Option Order) → order_in scenario.time scenario witness.ranks.items ≡ found
      → with_order witness.delays.items found ≡ Some schedule → IsAssignment scenario schedule
  by_order fits None same given = absurd (none-some schedule given)
  by_order fits (Some order) same given =
      subst (IsAssignment scenario) (same_Some (record { delays = witness.delays.items; order = order }) schedule given)
      (record { delays = within (ranges_of scenario) witness.delays.items fits; order = order_is scenario scenario.time witness.ranks.items order refl same })

  by_test : (b : Bool) → is_assignment scenario witness.delays.items ≡ b
      → cond b (with_order witness.delays.items (order_in scenario.time scenario witness.ranks.items)) None ≡ Some schedule → IsAssignment scenario schedule
  by_test true fits given = by_order fits (order_in scenario.time scenario witness.ranks.items) refl given
  by_test false other given = absurd (none-some schedule given)
