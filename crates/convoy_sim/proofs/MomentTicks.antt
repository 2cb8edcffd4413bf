-- The ticks of moments that are in order.
use Rattle.std.proofs.Common.{◌≡◌, ℕ, ◌≤◌, true, false, inl, inr, refl, ap, arith}
use Rattle.std.proofs.lemmas.Bool.{cases_lt, both_ways}
use Rattle.convoy_scenario.specs.Scenario.{Scenario}
use Rattle.convoy_draft.specs.declared.time.Time.{Time}
use Rattle.convoy_draft.specs.declared.time.Time.TheVariants.{Ticks, Real}
use Rattle.convoy_packets.specs.Assignment.{Schedule}
use Rattle.convoy_packets.specs.Order.{rank_at}
use Rattle.convoy_sim.specs.declared.moment.Moment.{Moment}
use Rattle.convoy_sim.specs.declared.moment.MomentKind.TheVariants.{Commit}
use Rattle.convoy_sim.specs.Times.{arrive, settle}
use Rattle.convoy_sim.specs.Moments.{is_before, arrival_of, arrival_rank, commit_of, next_arrival, rank_in}
use Rattle.convoy_sim.proofs.MomentsOrder.{before_by_tick, before_one_way, coming_before_commit}

-- what is before another moment is no later
pub tick_of_before : (a b : Moment) → is_before a b ≡ true → a.tick ≤ b.tick
tick_of_before a b h = elim (cases_lt b.tick a.tick) [
  | inl l ↦ absurd (both_ways (is_before a b) (before_one_way b a (before_by_tick b a l)) h)
  | inr l ↦ l
]

-- in whole ticks an arrival counts as of rank 0
pub rank_in_ticks : (plan : Scenario) (schedule : Schedule) (q h : ℕ) → plan.time ≡ Ticks → arrival_rank plan schedule q h ≡ 0
unfolding arrival_rank
rank_in_ticks plan schedule q h e = ap (λ t. rank_in t (rank_at schedule.order.arrivals q h)) e

-- an arrival that is not before a commit is no earlier than the first that may follow it
pub tick_past_commit : (plan : Scenario) (schedule : Schedule) (q h : ℕ) (c : Moment) → c.kind ≡ Commit
    → is_before (arrival_of plan schedule q h) c ≡ false → next_arrival plan.time c.tick ≤ arrive plan schedule q h
tick_past_commit plan schedule q h c k b = by_time plan.time refl where
  arrival : Moment
  arrival = arrival_of plan schedule q h

  by_time : (time : Time) → plan.time ≡ time → next_arrival time c.tick ≤ arrive plan schedule q h
  by_time Real e = elim (cases_lt (arrive plan schedule q h) c.tick) [
    | inl l ↦ absurd (both_ways (is_before arrival c) b (before_by_tick arrival c l))
    | inr l ↦ l
  ]
  by_time Ticks e = elim (cases_lt c.tick (arrive plan schedule q h)) [
    | inl l ↦ omega arith
    | inr l ↦ absurd (both_ways (is_before arrival c) b
        (coming_before_commit arrival c l (λ same. let none = rank_in_ticks plan schedule q h e in omega arith) refl k))
  ]

pub tick_of_commit : (plan : Scenario) (schedule : Schedule) (c q h : ℕ) → is_before (commit_of plan schedule c h) (arrival_of plan schedule q h) ≡ true
    → next_arrival plan.time (settle plan schedule c h) ≤ arrive plan schedule q h
tick_of_commit plan schedule c q h b =
    tick_past_commit plan schedule q h (commit_of plan schedule c h) refl
    (before_one_way (commit_of plan schedule c h) (arrival_of plan schedule q h) b)
