-- The order of deliveries, and how far the latency goes.
use Rattle.std.proofs.Common.{ℕ, ◌+◌, ◌*◌, ◌≤◌, inl, inr, ◌∷◌, sym, subst, arith}
use Rattle.convoy_scenario.specs.Scenario.{Scenario}
use Rattle.convoy_packets.specs.Assignment.{Schedule, IsAssignment}
use Rattle.convoy_sim.specs.Times.{issue, arrive, settle}
use Rattle.convoy_sim.specs.Stamps.{final_stamp}
use Rattle.convoy_sim.specs.Delivery.{last_commit, latency_at, latency_of}
use Rattle.convoy_sim.specs.ProtocolLaws.{ahead_of, OrderLaw, LatencyWithinFourDelays, LoneLatencyWithinTwoDelays, TargetLatencyWithinFourDelays}
use Rattle.convoy_sim.proofs.Membership.{IsIn, greatest_most, greatest_of_fewer}
use Rattle.convoy_sim.proofs.Addressed.{in_of_ahead}
use Rattle.convoy_sim.proofs.MomentsOrder.{less_after, less_trans}
use Rattle.convoy_sim.proofs.StampLaws.{earlier_arrives, not_greater}
use Rattle.convoy_sim.proofs.DeliveryTick.{in-ahead, delivery_law}
use Rattle.convoy_scenario.specs.WellFormed.{IsScenario}
use Rattle.convoy_sim.proofs.PacketDelays.{committed_within}

pub order_law : OrderLaw
order_law plan schedule well m n less g hm hn =
    rw (delivery_law plan schedule well m g hm, delivery_law plan schedule well n g hn)
    (greatest_of_fewer (λ k. settle plan schedule k g) (m ∷ ahead_of plan schedule m g) (n ∷ ahead_of plan schedule n g) ahead) where
      ahead : (k : ℕ) → IsIn k (m ∷ ahead_of plan schedule m g) → IsIn k (n ∷ ahead_of plan schedule n g)
      ahead k (inl e) = inr (subst (λ j. IsIn j (ahead_of plan schedule n g)) e
          (in-ahead plan schedule m n g hm (less_after _ (final_stamp plan schedule m) _ (not_greater plan schedule well m g hm) less)))
      ahead k (inr i) =
          let r = in_of_ahead plan schedule k m g i in
          inr (in-ahead plan schedule k n g r.0 (less_trans _ (final_stamp plan schedule m) _ r.1 less))

-- a message that arrives by some tick is committed within 2 D of that
committed_soon : (plan : Scenario) (schedule : Schedule) → IsScenario plan → IsAssignment plan schedule → (n g tick : ℕ)
    → arrive plan schedule n g ≤ tick → settle plan schedule n g ≤ tick + 2 * plan.delay
unfolding arrive
committed_soon plan schedule well h n g tick l = let r = committed_within plan schedule well h n g in omega arith

pub within_four : LatencyWithinFourDelays
unfolding latency_at
within_four plan schedule well h m g hm =
    let mine = committed_within plan schedule well h m g in
    let most : last_commit plan schedule g (m ∷ ahead_of plan schedule m g) ≤ issue plan schedule m + 4 * plan.delay =
    greatest_most (λ k. settle plan schedule k g) (issue plan schedule m + 4 * plan.delay) (m ∷ ahead_of plan schedule m g)
    (λ k i. elim i [
      | inl e ↦ subst (λ j. settle plan schedule j g ≤ issue plan schedule m + 4 * plan.delay) e (omega arith)
      | inr j ↦
          let r = in_of_ahead plan schedule k m g j in
          let come = earlier_arrives plan schedule well k m g r.0 hm r.1 in
          let soon = committed_soon plan schedule well h k g (settle plan schedule m g) come in
          omega arith
    ]) in
    let law = delivery_law plan schedule well m g hm in
    omega arith

pub lone_within_two : LoneLatencyWithinTwoDelays
unfolding latency_at
lone_within_two plan schedule well h m g hm lone =
    let mine = committed_within plan schedule well h m g in
    let most : last_commit plan schedule g (m ∷ ahead_of plan schedule m g) ≤ issue plan schedule m + 2 * plan.delay =
    greatest_most (λ k. settle plan schedule k g) (issue plan schedule m + 2 * plan.delay) (m ∷ ahead_of plan schedule m g)
    (λ k i. elim i [
      | inl e ↦ subst (λ j. settle plan schedule j g ≤ issue plan schedule m + 2 * plan.delay) e mine
      | inr j ↦
          subst (λ n. settle plan schedule n g ≤ issue plan schedule m + 2 * plan.delay)
          (sym (lone k (in_of_ahead plan schedule k m g j).0)) mine
    ]) in
    let law = delivery_law plan schedule well m g hm in
    omega arith

pub target_within_four : TargetLatencyWithinFourDelays
unfolding latency_of
target_within_four plan schedule well h = within_four plan schedule well h plan.target_message plan.target_group well.addressed
