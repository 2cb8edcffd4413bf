-- Why the ceiling holds: a message is committed soon after its issue, and so is what it waits for.
use Rattle.std.proofs.Common.{◌≡◌, ℕ, ◌+◌, ◌*◌, ◌-◌, ◌≤◌, nat_le, inl, inr, ◌∷◌, refl, subst, arith}
use Rattle.std.proofs.lemmas.Bool.{leb-true}
use Rattle.std.proofs.Math.Nat.{mul-le-mul_left}
use Rattle.convoy_scenario.specs.declared.sender.Sender.{Sender}
use Rattle.convoy_scenario.specs.declared.sender.Sender.TheVariants.{Group}
use Rattle.convoy_scenario.specs.Scenario.{Scenario, GoesTo, message_at}
use Rattle.convoy_packets.specs.declared.packet.Packet.TheVariants.{Multicast}
use Rattle.convoy_packets.specs.Assignment.{Schedule, AreWithin, delay_of, ranges_of}
use Rattle.convoy_sim.specs.Times.{arrive, issue, settle, propose_arrive}
use Rattle.convoy_sim.specs.Delivery.{addressed_to, last_commit, latency_at, latency_of}
use Rattle.convoy_sim.specs.ProtocolLaws.{arrive_by}
use Rattle.convoy_sim.specs.Traffic.{IsTraffic}
use Rattle.convoy_sim.proofs.Membership.{IsIn, in_of_filter, in_greatest, greatest_most}
use Rattle.convoy_sim.proofs.Addressed.{goes_from_in, goes_of_addressed, in-addressed}
use Rattle.convoy_ceiling.specs.Ceiling.{CeilingHolds, CeilingHoldsForAnyKinds, CeilingHoldsInFinerTicks, CeilingIsUpper, IsFinerTrafficOf, IsOfKind, ceiling_at, ceiling_of, delays_between, longest_by, longest_to_commit, longest_from_arrival, longest_after, stamp_delays}
use Rattle.convoy_ceiling.proofs.Used.{Used}
use Rattle.convoy_ceiling.proofs.SameKinds.{goes_too, kinds_go, own_kinds, same_ticks, kind_of, is_traffic}
use Rattle.convoy_ceiling.proofs.WithinRanges.{multicast_within, propose_within}

-- so many times a number, and so many times a sum
times_rise : (k a b : ℕ) → a ≤ b → k * a ≤ k * b
times_rise k a b l = mul-le-mul_left k l

times_plus : (k a b : ℕ) → k * (a + b) ≡ k * a + k * b
times_plus k a b = omega arith

module _ (used : Used) (times : ℕ) (scenario traffic : Scenario) (is : IsFinerTrafficOf times scenario traffic) (schedule : Schedule) (within : AreWithin (ranges_of traffic) schedule.delays) where
  module _ (n m g : ℕ) (kind : IsOfKind (message_at scenario n) (message_at traffic m)) (goes : GoesTo traffic m g) where
    -- a message is committed within the longest of its kind
    commits_by : settle traffic schedule m g ≤ issue traffic schedule m + times * longest_to_commit scenario n g
    unfolding settle arrive
    commits_by =
        greatest_most (propose_arrive traffic schedule m g) (issue traffic schedule m + times * longest_to_commit scenario n g) (message_at traffic m).destinations
        (λ h i.
        let to_h = goes_from_in traffic m h i in
        let sender : Sender = (message_at scenario n).sender in
        let first = subst (λ from. delay_of traffic schedule (Multicast m h) ≤ times * (delays_between scenario from h).1) kind.sender
        (multicast_within used times scenario traffic is schedule within m h to_h).1 in
        let second = (propose_within used times scenario traffic is schedule within m h g to_h goes).1 in
        let most = times_rise times _ _
        (in_greatest (longest_by scenario sender g) h (message_at scenario n).destinations (subst (IsIn h) kind.destinations i)) in
        let both = times_plus times (delays_between scenario sender h).1 (stamp_delays scenario h g).1 in
        omega arith)

    -- it arrives no sooner than the least delay of its kind after its issue
    arrives_from : issue traffic schedule m + times * (delays_between scenario (message_at scenario n).sender g).0 ≤ arrive traffic schedule m g
    unfolding arrive
    arrives_from =
        let least = subst (λ from. times * (delays_between scenario from g).0 ≤ delay_of traffic schedule (Multicast m g)) kind.sender
        (multicast_within used times scenario traffic is schedule within m g goes).0 in
        omega arith

  -- what has arrived at the group by the commit of a message there is committed within the ceiling of that
  commits_after : (m n k l g : ℕ) → IsOfKind (message_at scenario n) (message_at traffic m) → GoesTo traffic m g
      → IsOfKind (message_at scenario l) (message_at traffic k) → GoesTo traffic k g → arrive traffic schedule k g ≤ settle traffic schedule m g
      → settle traffic schedule k g ≤ issue traffic schedule m + times * (longest_to_commit scenario n g + longest_after scenario g)
  commits_after m n k l g kind goes other comes soon =
      let least : ℕ = (delays_between scenario (message_at scenario l).sender g).0 in
      let own = commits_by n m g kind goes in
      let commits = commits_by l k g other comes in
      let arrives = arrives_from l k g other comes in
      let after : longest_to_commit scenario l g - least ≤ longest_after scenario g =
      in_greatest (longest_from_arrival scenario g) l (addressed_to scenario g) (in-addressed scenario l g (goes_too scenario traffic l k g other comes)) in
      let rest = times_rise times (longest_to_commit scenario l g) (least + longest_after scenario g) (omega arith) in
      let parts = times_plus times least (longest_after scenario g) in
      let whole = times_plus times (longest_to_commit scenario n g) (longest_after scenario g) in
      omega arith

  latency_within : IsTraffic scenario → (n m g : ℕ) → IsOfKind (message_at scenario n) (message_at traffic m) → GoesTo traffic m g
      → latency_at traffic schedule m g ≤ times * ceiling_at scenario n g
  unfolding latency_at ceiling_at
  latency_within well n m g kind goes =
      let bound = used.bound traffic schedule (is_traffic times scenario traffic is well) m g goes in
      let own = commits_by n m g kind goes in
      let more = times_rise times (longest_to_commit scenario n g) (longest_to_commit scenario n g + longest_after scenario g) (omega arith) in
      let top : ℕ = issue traffic schedule m + times * (longest_to_commit scenario n g + longest_after scenario g) in
      let last : last_commit traffic schedule g (m ∷ arrive_by traffic schedule m g) ≤ top =
      greatest_most (λ k. settle traffic schedule k g) top (m ∷ arrive_by traffic schedule m g)
      (λ k i. elim i [
        | inl e ↦ subst (λ j. settle traffic schedule j g ≤ top) e (omega arith)
        | inr j ↦
            let r = in_of_filter (λ j. nat_le (arrive traffic schedule j g) (settle traffic schedule m g)) k (addressed_to traffic g) j in
            let comes = goes_of_addressed traffic k g r.0 in
            let other = kind_of times scenario traffic is k g comes in
            commits_after m n k other.0 g kind goes other.2 comes (leb-true _ _ r.1)
      ]) in
      omega arith

pub holds_finer : Used → CeilingHoldsInFinerTicks
holds_finer used times scenario traffic schedule well is within n m g kind goes =
    latency_within used times scenario traffic is schedule within (kinds_go scenario well) n m g kind goes

pub holds_for_any : Used → CeilingHoldsForAnyKinds
holds_for_any used scenario well n g traffic schedule is within m kind goes =
    let most = latency_within used 1 scenario traffic (same_ticks scenario traffic is) schedule within well n m g kind goes in
    omega arith

pub holds : CeilingHoldsInFinerTicks → CeilingHolds
holds finer scenario well n g traffic schedule is within m kind goes =
    let most = finer 1 scenario traffic schedule well (same_ticks scenario traffic is) within n m g kind goes in
    omega arith

-- the messages of a scenario are traffic of their own kinds
pub is_upper : CeilingHolds → CeilingIsUpper
unfolding latency_of ceiling_of
is_upper ceiling scenario well schedule given =
    ceiling scenario well scenario.target_message scenario.target_group scenario schedule (own_kinds scenario) given.delays scenario.target_message
    (record { sender = refl; destinations = refl }) well.addressed
