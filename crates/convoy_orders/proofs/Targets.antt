-- Runs of scenarios with other targets are the same.
use Rattle.std.proofs.Common.{◌≡◌, ℕ, ◌≤◌, refl, sym, subst, ◌∙◌}
use Rattle.convoy_scenario.specs.Scenario.{Scenario}
use Rattle.convoy_scenario.specs.Targets.{with_target}
use Rattle.convoy_packets.specs.Packets.{packets_of}
use Rattle.convoy_packets.specs.Assignment.{Schedule, IsAssignment, delay_of, ranges_of}
use Rattle.convoy_sim.specs.Times.{arrive, settle}
use Rattle.convoy_sim.specs.Moments.{arrival_rank, commit_rank, moments_of}
use Rattle.convoy_sim.specs.Stamps.{clocks_of, local_stamp, final_stamp}
use Rattle.convoy_sim.specs.Delivery.{holds_back, deliver, latency_at, latency_of}
use Rattle.convoy_sim.specs.Greatest.{IsGreatest, IsUpper}
use Rattle.convoy_orders.specs.GreatestAt.{IsGreatestAt, IsUpperAt, TargetIsAskedFor}
use Rattle.convoy_orders.proofs.SameOrder.{same_order}

same_latency : (plan : Scenario) (m g : ℕ) (schedule : Schedule) → latency_of (with_target plan m g) schedule ≡ latency_at plan schedule m g
unfolding packets_of delay_of arrive settle arrival_rank commit_rank moments_of clocks_of local_stamp final_stamp holds_back deliver latency_at latency_of
same_latency plan m g schedule = refl

assigned : (plan : Scenario) (m g : ℕ) (schedule : Schedule) → IsAssignment (with_target plan m g) schedule → IsAssignment plan schedule
unfolding packets_of ranges_of
assigned plan m g schedule is = record {
  delays = is.delays;
  order = same_order plan (with_target plan m g) refl refl schedule.order is.order;
}

assigned_too : (plan : Scenario) (m g : ℕ) (schedule : Schedule) → IsAssignment plan schedule → IsAssignment (with_target plan m g) schedule
unfolding packets_of ranges_of
assigned_too plan m g schedule is = record {
  delays = is.delays;
  order = same_order (with_target plan m g) plan refl refl schedule.order is.order;
}

module _ (plan : Scenario) (m g latency : ℕ) where
  upper_at : IsUpper (with_target plan m g) latency → IsUpperAt plan m g latency
  upper_at upper schedule given = subst (λ n. n ≤ latency) (same_latency plan m g schedule) (upper schedule (assigned_too plan m g schedule given))

  upper_of : IsUpperAt plan m g latency → IsUpper (with_target plan m g) latency
  upper_of upper schedule given = subst (λ n. n ≤ latency) (sym (same_latency plan m g schedule)) (upper schedule (assigned plan m g schedule given))

  greatest_at : IsGreatest (with_target plan m g) latency → IsGreatestAt plan m g latency
  greatest_at greatest =
      let reached = greatest.reached in
      record {
        reached = (reached.0, assigned plan m g reached.0 reached.1, sym (same_latency plan m g reached.0) ∙ reached.2);
        upper = upper_at greatest.upper;
      }

  greatest_of : IsGreatestAt plan m g latency → IsGreatest (with_target plan m g) latency
  greatest_of greatest =
      let reached = greatest.reached in
      record {
        reached = (reached.0, assigned_too plan m g reached.0 reached.1, same_latency plan m g reached.0 ∙ reached.2);
        upper = upper_of greatest.upper;
      }

pub asked_for : TargetIsAskedFor
asked_for plan m g latency = ((upper_at plan m g latency, upper_of plan m g latency), (greatest_at plan m g latency, greatest_of plan m g latency))
