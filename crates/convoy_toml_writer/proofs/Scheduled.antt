-- The delays and the ranks that are read beside a scenario give the schedule again.
use Rattle.std.proofs.Common.{◌≡◌, ℕ, ◌+◌, ◌≤◌, ◌==◌, true, List, [], ◌∷◌, length, map, pos, Some, Ok, refl, sym, ap, ◌∙◌, arith, inl, inr}
use Rattle.std.specs.List.{AllByRecursion}
use Rattle.std.specs.Option.{MatchOption}
use Rattle.std.proofs.lemmas.Bool.{cases_Bool, le-leb, eq-eqb, true≢false}
use Rattle.std.proofs.lemmas.List.{length-map}
use Rattle.std.proofs.lemmas.List.Elements.{recursion_from_All}
use Rattle.convoy_draft.specs.declared.time.Time.{Time}
use Rattle.convoy_draft.specs.declared.time.Time.TheVariants.{Ticks, Real}
use Rattle.convoy_scenario.specs.Scenario.{Scenario}
use Rattle.convoy_packets.specs.declared.order.TheConstants.{GREATEST_RANK}
use Rattle.convoy_packets.specs.Assignment.{in_fixed_order, ranges_of}
use Rattle.convoy_packets.specs.Given.{delay_given}
use Rattle.convoy_packets.specs.ScheduleLaws.{FixedOrderIsDecided, ListsOfDelaysAreSchedules, OrdersAreTheirLists, RanksAreOneEach}
use Rattle.convoy_packets.specs.Order.{IsOrder, Order, no_order}
use Rattle.convoy_packets.specs.OrderLists.{is_no_order, order_given, rank_count, ranks_given, ranks_of}
use Rattle.convoy_toml_writer.specs.WrittenTextLaws.{SchedulesAreGiven, ranks_for}

-- the laws of the crate below that it takes
pub record Grounds : Type 0 where
  pub delays : ListsOfDelaysAreSchedules
  pub fixed : FixedOrderIsDecided
  pub ranks : RanksAreOneEach
  pub lists : OrdersAreTheirLists

rank_again : (rank : ℕ) → rank ≤ GREATEST_RANK → delay_given (0, GREATEST_RANK) (pos rank) ≡ Some rank
rank_again rank small = rw (le-leb 0 rank (omega arith), le-leb rank GREATEST_RANK small) refl

ranks_again : (i : ℕ) (ranks : List ℕ) → AllByRecursion (λ rank. rank ≤ GREATEST_RANK) ranks → ranks_given i (map pos ranks) ≡ Ok ranks
ranks_again i [] small = refl
ranks_again i (rank ∷ ranks) small = rw (rank_again rank small.0, ranks_again (i + 1) ranks small.1) refl

not_ticks : (time : Time) → (time ≡ Ticks → ⊥) → time ≡ Real
not_ticks Ticks other = absurd (other refl)
not_ticks Real other = refl

module _ (grounds : Grounds) (scenario : Scenario) where
  order_again : (order : Order) → IsOrder scenario order → order_given scenario (map pos (ranks_of scenario order)) ≡ Ok order
  order_again order is =
      let ranks = ranks_of scenario order in
      let (long, small) = grounds.ranks scenario order is in
      let as_many : (length (map pos ranks) == rank_count scenario) ≡ true = eq-eqb _ _ (length-map ranks pos ∙ long) in
      rw (as_many, ranks_again 0 ranks (recursion_from_All (λ rank. rank ≤ GREATEST_RANK) ranks small)) (ap Ok (grounds.lists scenario order is))

  order_told : (order : Order) → IsOrder scenario order
      → MatchOption (ranks_for scenario order) (order ≡ no_order) (λ ranks. (scenario.time ≡ Real) × (order_given scenario ranks ≡ Ok order))
  order_told order is =
      elim (cases_Bool (is_no_order order)) [
        | inl none ↦ rw none ((grounds.fixed scenario order is).0 none)
        | inr some ↦
            let in_ticks : scenario.time ≡ Ticks → ⊥ = λ ticks. true≢false (sym ((grounds.fixed scenario order is).1 (is.fixed ticks)) ∙ some) in
            rw some (not_ticks scenario.time in_ticks, order_again order is)
      ]

-- what is read gives the schedule
pub given_again : Grounds → SchedulesAreGiven
given_again grounds scenario schedule is assigned = record {
  numbers = map pos schedule.delays;
  there = refl;
  delays = (grounds.delays (ranges_of scenario) (map pos schedule.delays) (in_fixed_order schedule.delays)).1 (refl, assigned.delays, refl);
  order = order_told grounds scenario schedule.order assigned.order;
}
