-- A run in finer ticks is no later than the one with each moment rounded up to whole ticks.
use Rattle.std.proofs.Common.{◌≡◌, ℕ, ◌+◌, ◌-◌, ◌*◌, ◌/◌, ◌%◌, ◌<◌, ◌≤◌, nat_lt, nat_le, sym, ap, subst, subst₂, ◌∙◌, arith, mod-lt}
use Rattle.convoy_draft.specs.declared.time.Time.TheVariants.{Real}
use Rattle.convoy_scenario.specs.Scenario.{Scenario, GoesTo}
use Rattle.convoy_packets.specs.Assignment.{Schedule, IsAssignment}
use Rattle.convoy_sim.specs.Times.{issue, arrive, settle}
use Rattle.convoy_sim.specs.Moments.{unordered_moments}
use Rattle.convoy_sim.specs.Delivery.{deliver, latency_at, latency_of}
use Rattle.convoy_laws.proofs.Used.{Used}
use Rattle.convoy_laws.specs.FinerTicks.{IsFiner, IsRoundable, FinerRunsAreMatched, WholeTicksAreEnough}
use Rattle.convoy_laws.proofs.Ceiling.{times_rise, times_plus}
use Rattle.convoy_laws.proofs.Offset.{up_from, from_holds, from_at_most, from_past, from_offset}
use Rattle.convoy_laws.proofs.SameParts.{same_addressed_to}
use Rattle.convoy_laws.proofs.Delays.{whole_in, issues, arrives, settles, delays_within}
use Rattle.convoy_laws.proofs.Ranks.{rank_among, order_among, is_order}
use Rattle.convoy_origin.proofs.SameRun.{same_local, same_final}
use Rattle.convoy_laws.proofs.Rounded.{is_rounded}
use Rattle.convoy_origin.proofs.Delivered.{IsSameHold, free_same, delivered_by, delivered_free}

module _ (used : Used) (k : ℕ) (plan fine : Scenario) (is : IsFiner k plan fine) (o : ℕ) (less : o < k) (well : IsRoundable plan) (real : plan.time ≡ Real) (schedule : Schedule) where
  abbrev whole : Schedule
  whole = whole_in k o plan fine schedule (order_among plan fine schedule)

  whole_is_assignment : IsAssignment fine schedule → IsAssignment plan whole
  whole_is_assignment given = record {
    delays = delays_within used k plan fine is o less schedule given (order_among plan fine schedule);
    order = is_order k plan fine is well schedule real;
  }

  -- what holds a message back after so many whole ticks does so in finer ones
  holds_same : (m g tick : ℕ) → IsSameHold plan whole fine schedule m g tick (k * tick + o)
  holds_same m g tick =
      let rounded = is_rounded used k plan fine is o less well real schedule in
      record {
        goes = same_addressed_to k plan fine is g;
        come = λ n. ap (λ t. nat_le t tick) (arrives used k plan fine is o less schedule (order_among plan fine schedule) n g)
            ∙ from_at_most k is.some o less (arrive fine schedule n g) tick;
        local = λ n. same_local (λ x. up_from k o x.tick) (rank_among (unordered_moments fine schedule)) plan whole fine schedule rounded n g;
        final = same_final (λ x. up_from k o x.tick) (rank_among (unordered_moments fine schedule)) plan whole fine schedule rounded m;
        waits = λ n. ap (nat_lt tick) (settles used k plan fine is o less schedule (order_among plan fine schedule) n g)
            ∙ from_past k is.some o less (settle fine schedule n g) tick;
      }

  delivers : (m g : ℕ) → GoesTo plan m g → deliver fine schedule m g ≤ k * deliver plan whole m g + o
  delivers m g goes =
      let done = delivered_free plan whole m g goes in
      let tick : ℕ = deliver plan whole m g in
      let committed : up_from k o (settle fine schedule m g) ≤ tick =
      subst (λ t. t ≤ tick) (settles used k plan fine is o less schedule (order_among plan fine schedule) m g) done.0 in
      let holds = from_holds k is.some o less (settle fine schedule m g) in
      let rise = times_rise k (up_from k o (settle fine schedule m g)) tick committed in
      delivered_by fine schedule m g (k * tick + o) (omega arith)
      (sym (free_same plan whole fine schedule m g tick (k * tick + o) (holds_same m g tick)) ∙ done.1)

  -- no message is delivered before its issue
  issue_first : (m g : ℕ) → GoesTo plan m g → issue plan whole m ≤ deliver plan whole m g
  unfolding arrive
  issue_first m g goes =
      let done = delivered_free plan whole m g goes in
      let committed = done.0 in
      let come = used.arrivals plan whole m g g goes in
      omega arith

  -- so a message that is issued so much past a whole tick has no greater latency
  latency_within : (m g issued : ℕ) → issue fine schedule m ≡ k * issued + o → GoesTo plan m g → latency_at fine schedule m g ≤ k * latency_at plan whole m g
  unfolding latency_at
  latency_within m g issued at goes =
      let delivered = delivers m g goes in
      let low = issue_first m g goes in
      let start : issue plan whole m ≡ issued =
      issues used k plan fine is o less schedule (order_among plan fine schedule) m ∙ ap (up_from k o) at ∙ from_offset k is.some o less issued in
      let times_issued : k * issue plan whole m ≡ k * issued = ap (λ n. k * n) start in
      let wait : ℕ = deliver plan whole m g - issue plan whole m in
      let whole_wait : deliver plan whole m g ≡ issue plan whole m + wait = omega arith in
      let parts : k * deliver plan whole m g ≡ k * issue plan whole m + k * wait = ap (λ n. k * n) whole_wait ∙ times_plus k (issue plan whole m) wait in
      omega arith

pub runs_matched : Used → FinerRunsAreMatched
unfolding latency_of
runs_matched used k plan fine schedule well real is given =
    let start : ℕ = issue fine schedule plan.target_message in
    let o : ℕ = start % k in
    let less : o < k = mod-lt start (omega (arith, is.some)) in
    let parts : start ≡ k * (start / k) + o = omega arith in (
      whole_in k o plan fine schedule (order_among plan fine schedule),
      whole_is_assignment used k plan fine is o less well real schedule given,
      subst₂ (λ m g. latency_at fine schedule m g ≤ k * latency_at plan (whole_in k o plan fine schedule (order_among plan fine schedule)) plan.target_message plan.target_group)
          (sym is.target_message) (sym is.target_group)
          (latency_within used k plan fine is o less well real schedule plan.target_message plan.target_group (start / k) parts well.addressed),
    )

pub whole_enough : FinerRunsAreMatched → WholeTicksAreEnough
whole_enough matched k plan fine latency well real is upper schedule given =
    let run = matched k plan fine schedule well real is given in
    let most = times_rise k (latency_of plan run.0) latency (upper run.0 run.1) in
    let past = run.2 in
    omega arith
