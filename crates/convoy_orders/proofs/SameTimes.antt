-- In the run that belongs to one of the other scenario all happens at the same ticks, and at each group in the same order.
use Rattle.std.proofs.Common.{◌≡◌, ℕ, ◌+◌, ◌==◌, max, Bool, false, ◌&&◌, ◌||◌, nat_lt, if◌then◌else◌, map, sym, ap, ap₂, ◌∙◌, arith}
use Rattle.std.proofs.lemmas.Bool.Decides.{nat_tests}
use Rattle.convoy_scenario.specs.Scenario.{Scenario, GoesTo, message_at}
use Rattle.convoy_scenario.specs.WellFormed.{IsScenario}
use Rattle.convoy_packets.specs.declared.packet.Packet.TheVariants.{Wait, Multicast, Propose}
use Rattle.convoy_packets.specs.Order.{rank_at}
use Rattle.convoy_packets.specs.Assignment.{Schedule}
use Rattle.convoy_sim.specs.declared.moment.Moment.{Moment}
use Rattle.convoy_sim.specs.declared.moment.MomentKind.{MomentKind}
use Rattle.convoy_sim.specs.declared.moment.MomentKind.TheVariants.{Arrival, Commit}
use Rattle.convoy_sim.specs.Times.{issue, arrive, settle, propose_arrive}
use Rattle.convoy_sim.specs.Moments.{is_before, is_kind_before, is_same_kind, rank_in, arrival_rank, rank_then, commit_rank, arrival_of, commit_of}
use Rattle.convoy_orders.specs.Renumbered.{IsRenumbered}
use Rattle.convoy_orders.proofs.Used.{Packets}
use Rattle.convoy_orders.proofs.Lists.{greatest_of_more}
use Rattle.convoy_orders.proofs.SameParts.{same_greatest}
use Rattle.convoy_orders.proofs.Backwards.{run_here, delay_is, arrival_rank_in, commit_rank_in}

-- what happens at a group is in the same order in both runs
pub record AreInStep (renumber : ℕ → ℕ) (plan : Scenario) (schedule : Schedule) (other : Scenario) (run : Schedule) : Type 0 where
  pub arrivals : (n z g : ℕ) → GoesTo plan n g → GoesTo plan z g
      → is_before (arrival_of other run n (renumber g)) (arrival_of other run z (renumber g)) ≡ is_before (arrival_of plan schedule n g) (arrival_of plan schedule z g)
  pub commits : (q z g : ℕ) → GoesTo plan q g → GoesTo plan z g
      → is_before (commit_of other run q (renumber g)) (arrival_of other run z (renumber g)) ≡ is_before (commit_of plan schedule q g) (arrival_of plan schedule z g)

-- a moment of that kind
abbrev pub moment_at : MomentKind → ℕ → ℕ → ℕ → ℕ → Moment
moment_at kind m g tick rank = record { tick = tick; rank = rank; kind = kind; message = m; group = g }

never_less : (g : ℕ) → nat_lt g g ≡ false
never_less g = grind (arith, nat_tests)

-- of two moments at one group it does not matter at which
before_at : (k l : MomentKind) (n z g h t u r s : ℕ)
    → is_before (moment_at k n g t r) (moment_at l z g u s) ≡ is_before (moment_at k n h t r) (moment_at l z h u s)
before_at k l n z g h t u r s =
    ap (λ (b : Bool). nat_lt t u || ((t == u) && (nat_lt r s || ((r == s) && (is_kind_before k l || (is_same_kind k l && (nat_lt n z || ((n == z) && b))))))))
    (never_less g ∙ sym (never_less h))

module _ (used : Packets) (renumber back : ℕ → ℕ) (plan other : Scenario) (is : IsRenumbered renumber back plan other) (run : Schedule) where
  abbrev here : Schedule
  here = run_here renumber plan other run

  pub issues : (m : ℕ) → issue other run m ≡ issue plan here m
  issues m = ap₂ ◌+◌ (is.messages m).at (sym (delay_is used renumber back plan other is run (Wait m)))

  pub arrives : (m g : ℕ) → arrive other run m (renumber g) ≡ arrive plan here m g
  unfolding arrive
  arrives m g = ap₂ ◌+◌ (issues m) (sym (delay_is used renumber back plan other is run (Multicast m g)))

  proposes : (m g h : ℕ) → propose_arrive other run m (renumber g) (renumber h) ≡ propose_arrive plan here m g h
  proposes m g h = ap₂ ◌+◌ (arrives m h) (sym (delay_is used renumber back plan other is run (Propose m h g)))

  pub settles : (m g : ℕ) → settle other run m (renumber g) ≡ settle plan here m g
  unfolding settle
  settles m g =
      same_greatest renumber back plan other is (propose_arrive plan here m g) (propose_arrive other run m (renumber g)) m (λ h goes. proposes m g h)

  module _ (well : IsScenario plan) where
    arrival_rank_is : (m g : ℕ) → GoesTo plan m g → arrival_rank other run m (renumber g) ≡ arrival_rank plan here m g
    unfolding arrival_rank
    arrival_rank_is m g goes =
        ap (λ t. rank_in t (rank_at run.order.arrivals m (renumber g))) is.time ∙ arrival_rank_in renumber plan well run.order plan.time m g goes

    rank_then_is : (m g h : ℕ) → GoesTo plan m h
        → rank_then other run m (settle other run m (renumber g)) (renumber h) ≡ rank_then plan here m (settle plan here m g) h
    rank_then_is m g h goes =
        ap₂ (λ (b : Bool) (r : ℕ). if b then r else 0) (ap₂ (λ (x y : ℕ). x == y) (arrives m h) (settles m g)) (arrival_rank_is m h goes)

    commit_rank_is : (m g : ℕ) → GoesTo plan m g → commit_rank other run m (renumber g) ≡ commit_rank plan here m g
    unfolding commit_rank
    commit_rank_is m g goes =
        greatest_of_more (rank_in other.time (rank_at run.order.commits m (renumber g))) (map (rank_then other run m (settle other run m (renumber g))) (message_at other m).destinations)
        ∙ ap₂ max
        (ap (λ t. rank_in t (rank_at run.order.commits m (renumber g))) is.time ∙ commit_rank_in renumber plan well run.order plan.time m g goes)
        (same_greatest renumber back plan other is (rank_then plan here m (settle plan here m g)) (rank_then other run m (settle other run m (renumber g))) m (rank_then_is m g))
        ∙ sym (greatest_of_more (rank_in plan.time (rank_at here.order.commits m g)) (map (rank_then plan here m (settle plan here m g)) (message_at plan m).destinations))

    arrival_is : (m g : ℕ) → GoesTo plan m g → arrival_of other run m (renumber g) ≡ moment_at Arrival m (renumber g) (arrive plan here m g) (arrival_rank plan here m g)
    arrival_is m g goes = ap₂ (moment_at Arrival m (renumber g)) (arrives m g) (arrival_rank_is m g goes)

    commit_is : (m g : ℕ) → GoesTo plan m g → commit_of other run m (renumber g) ≡ moment_at Commit m (renumber g) (settle plan here m g) (commit_rank plan here m g)
    commit_is m g goes = ap₂ (moment_at Commit m (renumber g)) (settles m g) (commit_rank_is m g goes)

    pub in_step : AreInStep renumber plan here other run
    in_step = record {
      arrivals = λ n z g goes too. ap₂ is_before (arrival_is n g goes) (arrival_is z g too) ∙ before_at Arrival Arrival n z (renumber g) g (arrive plan here n g) (arrive plan here z g) (arrival_rank plan here n g) (arrival_rank plan here z g);
      commits = λ q z g goes too. ap₂ is_before (commit_is q g goes) (arrival_is z g too) ∙ before_at Commit Arrival q z (renumber g) g (settle plan here q g) (arrive plan here z g) (commit_rank plan here q g) (arrival_rank plan here z g);
    }
