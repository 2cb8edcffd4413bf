-- Why the ceiling through outages holds: a message is committed after little work, and so is what it waits for, which was issued before that.
use Rattle.std.proofs.Common.{All, ◌≡◌, ℕ, ◌+◌, ◌*◌, ◌-◌, ◌<◌, ◌≤◌, nat_le, inl, inr, ◌∷◌, length, sym, subst, subst₂, arith}
use Rattle.std.proofs.lemmas.Bool.{cases_lt, leb-true}
use Rattle.std.proofs.Math.Nat.{mul-le-mul_left}
use Rattle.std.specs.List.Sorted.{IsStrictlyIncreasing}
use Rattle.convoy_scenario.specs.Scenario.{Scenario, GoesTo, message_at, no_message}
use Rattle.convoy_packets.specs.Assignment.{Schedule}
use Rattle.convoy_sim.specs.Times.{arrive, issue, settle}
use Rattle.convoy_sim.specs.Delivery.{addressed_to, deliver, latency_at}
use Rattle.convoy_sim.specs.ProtocolLaws.{arrive_by}
use Rattle.convoy_sim.specs.Traffic.{IsTraffic}
use Rattle.convoy_sim.proofs.Membership.{IsIn, greatest_is_one, in_of_filter, in_greatest}
use Rattle.convoy_sim.proofs.Addressed.{goes_of_addressed, in-addressed, number_of_goes}
use Rattle.convoy_ceiling.specs.Ceiling.{IsOfKind, longest_to_commit}
use Rattle.convoy_ceiling.proofs.SameKinds.{goes_too}
use Rattle.convoy_outages.specs.Outages.{KeepsLinksBut, Outages, worked_ticks}
use Rattle.convoy_outages.specs.OutageCeiling.{outage_ceiling_at, slowest_to_commit, worked_ceiling_at}
use Rattle.convoy_outages.specs.OutageLaws.{OutageCeilingHolds, OutageCeilingHoldsOfRareOutages, OutagesCostWhatTheyLast, WorkIsWithinCeiling}
use Rattle.convoy_outages.proofs.Used.{Used}
use Rattle.convoy_outages.proofs.Worked.{ticks_parted, worked_by_way, worked_longer, worked_shorter}
use Rattle.convoy_outages.proofs.Commits.{commit_work}

-- so many times a sum
times_plus : (k a b : ℕ) → k * (a + b) ≡ k * a + k * b
times_plus k a b = omega arith

module _ (used : Used) (down : Outages) (times : ℕ) (scenario traffic : Scenario) (schedule : Schedule) (is : KeepsLinksBut down times scenario traffic schedule) where
  -- its messages go to groups, as those of the scenario do
  is_traffic : IsTraffic scenario → IsTraffic traffic
  is_traffic well m other l =
      let kind = is.kinds m other l in
      let message = well kind.0 no_message kind.1 in
      record {
        destinations = subst (λ hs. 0 < length hs) (sym kind.2.destinations) message.destinations;
        ascending = subst IsStrictlyIncreasing (sym kind.2.destinations) message.ascending;
        known = subst₂ (λ groups hs. All (λ h. h < groups) hs) (sym is.groups) (sym kind.2.destinations) message.known;
      }

  module _ (n m g : ℕ) (kind : IsOfKind (message_at scenario n) (message_at traffic m)) (goes : GoesTo traffic m g) where
    -- what has arrived at the group by the commit of a message there was issued by then, and is committed after no more work than the slowest
    commits_after : (k l : ℕ) → IsOfKind (message_at scenario l) (message_at traffic k) → GoesTo traffic k g → arrive traffic schedule k g ≤ settle traffic schedule m g
        → worked_ticks down (issue traffic schedule m) (settle traffic schedule k g) ≤ times * worked_ceiling_at scenario n g
    unfolding arrive worked_ceiling_at
    commits_after k l other comes soon =
        let own = commit_work used down times scenario traffic schedule is n m g kind goes in
        let rest = commit_work used down times scenario traffic schedule is l k g other comes in
        let slowest = mul-le-mul_left times
        (in_greatest (λ j. longest_to_commit scenario j g) l (addressed_to scenario g) (in-addressed scenario l g (goes_too scenario traffic l k g other comes))) in
        let way = worked_by_way down (issue traffic schedule m) (settle traffic schedule m g) (settle traffic schedule k g) in
        let after = worked_shorter down (issue traffic schedule k) (settle traffic schedule m g) (settle traffic schedule k g) (omega arith) in
        let both = times_plus times (longest_to_commit scenario n g) (slowest_to_commit scenario g) in
        omega arith

    -- so is each of those whose commits its delivery may await
    awaited : (k : ℕ) → IsIn k (m ∷ arrive_by traffic schedule m g)
        → worked_ticks down (issue traffic schedule m) (settle traffic schedule k g) ≤ times * worked_ceiling_at scenario n g
    unfolding worked_ceiling_at
    awaited k (inl same) =
        let own = commit_work used down times scenario traffic schedule is n m g kind goes in
        let both = times_plus times (longest_to_commit scenario n g) (slowest_to_commit scenario g) in
        subst (λ (j : ℕ). worked_ticks down (issue traffic schedule m) (settle traffic schedule j g) ≤ times * worked_ceiling_at scenario n g) same (omega arith)
    awaited k (inr by) =
        let r = in_of_filter (λ j. nat_le (arrive traffic schedule j g) (settle traffic schedule m g)) k (addressed_to traffic g) by in
        let comes = goes_of_addressed traffic k g r.0 in
        let other = is.kinds k no_message (number_of_goes traffic k g comes) in
        commits_after k other.0 other.2 comes (leb-true _ _ r.1)

    pub work_within : IsTraffic scenario → worked_ticks down (issue traffic schedule m) (deliver traffic schedule m g) ≤ times * worked_ceiling_at scenario n g
    work_within well =
        let last = greatest_is_one (λ k. settle traffic schedule k g) m (arrive_by traffic schedule m g) in
        let reached = awaited last.0 last.1 in
        let most = worked_longer down (issue traffic schedule m) (deliver traffic schedule m g) (settle traffic schedule last.0 g)
        (subst (λ (tick : ℕ). deliver traffic schedule m g ≤ tick) (sym last.2) (used.bound traffic schedule (is_traffic well) m g goes)) in
        omega arith

pub work_holds : Used → WorkIsWithinCeiling
work_holds used down times scenario traffic schedule well is n m g kind goes =
    work_within used down times scenario traffic schedule is n m g kind goes well

-- a latency is the work and the silence up to the delivery
pub costs : WorkIsWithinCeiling → OutagesCostWhatTheyLast
unfolding latency_at
costs work down times scenario traffic schedule well is n m g kind goes =
    let most = work down times scenario traffic schedule well is n m g kind goes in
    let parts = ticks_parted down (issue traffic schedule m) (deliver traffic schedule m g) in
    omega arith

pub holds_through : OutagesCostWhatTheyLast → OutageCeilingHolds
holds_through law span scenario well n g down times traffic schedule is m kind goes short =
    let most = law down times scenario traffic schedule well is n m g kind goes in
    let both = times_plus times (worked_ceiling_at scenario n g) span in
    omega arith

-- were it later, a stretch of one tick more than the ceiling would hold too much silence or too much work
pub holds_of_rare : WorkIsWithinCeiling → OutageCeilingHoldsOfRareOutages
unfolding latency_at
holds_of_rare work span down times scenario traffic schedule well is n m g kind goes rare =
    let start : ℕ = issue traffic schedule m in
    let past : ℕ = start + (times * outage_ceiling_at scenario span n g + 1) in
    let most = work down times scenario traffic schedule well is n m g kind goes in
    let parts = ticks_parted down start past in
    let short = rare start in
    let both = times_plus times (worked_ceiling_at scenario n g) span in
    elim (cases_lt (times * outage_ceiling_at scenario span n g) (deliver traffic schedule m g - start)) [
      | inl late ↦ let longer = worked_longer down start past (deliver traffic schedule m g) (omega arith) in absurd (omega arith)
      | inr soon ↦ soon
    ]
