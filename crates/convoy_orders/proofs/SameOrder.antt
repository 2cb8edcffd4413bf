-- Scenarios in which time goes alike and which have the same messages have the same orders of ties.
use Rattle.std.proofs.Common.{◌≡◌, ℕ, List, IsFalse, slice_index_or, sym, subst, ◌∙◌}
use Rattle.convoy_scenario.specs.Scenario.{Message, Scenario, is_addressed, no_message}
use Rattle.convoy_packets.specs.Order.{AreRanks, IsOrder, Order}

module _ (plan other : Scenario) (time : other.time ≡ plan.time) (messages : other.multicasts ≡ plan.multicasts) where
  same_ranks : (ranks : List ℕ) → AreRanks other ranks → AreRanks plan ranks
  same_ranks ranks are = record {
    long = are.long;
    small = are.small;
    nowhere = λ m g few below elsewhere.
        are.nowhere m g few below (subst (λ (ms : List Message). IsFalse (is_addressed (slice_index_or ms m no_message) g)) (sym messages) elsewhere);
  }

  pub same_order : (order : Order) → IsOrder other order → IsOrder plan order
  same_order order is = record {
    arrivals = same_ranks order.arrivals is.arrivals;
    commits = same_ranks order.commits is.commits;
    fixed = λ ticks. is.fixed (time ∙ ticks);
  }
