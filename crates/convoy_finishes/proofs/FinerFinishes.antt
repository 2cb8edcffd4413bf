-- A run in finer ticks is finished no later than the one with each moment rounded up to whole ticks.
use Rattle.std.proofs.Common.{◌≡◌, ℕ, ◌+◌, ◌-◌, ◌*◌, ◌/◌, ◌%◌, ◌<◌, ◌≤◌, List, ◌∷◌, filter, map, sym, ap, ap₂, subst, subst₂, ◌∙◌, arith, mod-lt}
use Rattle.convoy_draft.specs.declared.time.Time.TheVariants.{Real}
use Rattle.convoy_scenario.specs.Scenario.{Scenario, GoesTo, message_at}
use Rattle.convoy_packets.specs.Assignment.{Schedule, IsAssignment}
use Rattle.convoy_sim.specs.Times.{greatest, issue, arrive, settle}
use Rattle.convoy_sim.specs.Moments.{unordered_moments}
use Rattle.convoy_sim.specs.Stamps.{is_less, local_stamp, final_stamp}
use Rattle.convoy_sim.specs.Delivery.{addressed_to}
use Rattle.convoy_sim.specs.ProtocolLaws.{ahead_of}
use Rattle.convoy_sim.proofs.Membership.{greatest_most, in_greatest}
use Rattle.convoy_origin.proofs.Lists.{filter_same}
use Rattle.convoy_origin.proofs.SameRun.{same_local, same_final}
use Rattle.convoy_laws.specs.FinerTicks.{IsFiner, IsRoundable, ScenariosAreRoundable}
use Rattle.convoy_laws.proofs.Used.{Used}
use Rattle.convoy_laws.proofs.Ceiling.{times_plus, times_rise}
use Rattle.convoy_laws.proofs.Offset.{from_holds, from_offset, up_from}
use Rattle.convoy_laws.proofs.SameParts.{goes_too, same_addressed_to, same_message}
use Rattle.convoy_laws.proofs.Delays.{arrives, delays_within, issues, settles, whole_in}
use Rattle.convoy_laws.proofs.Ranks.{is_order, order_among, rank_among}
use Rattle.convoy_laws.proofs.Rounded.{is_rounded}
use Rattle.convoy_finishes.specs.Finishes.{finish_latency, way_at}
use Rattle.convoy_finishes.specs.FinishLaws.{AreFinerWays, FinishesInFinerTicks, LatestFinishes}
use Rattle.convoy_finishes.proofs.Latest.{latencies_of_upper, upper_of_latencies}
use Rattle.convoy_finishes.proofs.WidenedFinishes.{last_at, latest_at}

module _ (used : Used) (k : ℕ) (plan fine : Scenario) (is : IsFiner k plan fine) (ways finer_ways : List ℕ) (no_longer : AreFinerWays k ways finer_ways)
    (o : ℕ) (less : o < k) (well : IsRoundable plan) (real : plan.time ≡ Real) (schedule : Schedule) where
  abbrev whole : Schedule
  whole = whole_in k o plan fine schedule (order_among plan fine schedule)

  whole_is_assignment : IsAssignment fine schedule → IsAssignment plan whole
  whole_is_assignment given = record {
    delays = delays_within used k plan fine is o less schedule given (order_among plan fine schedule);
    order = is_order k plan fine is well schedule real;
  }

  -- what is so many whole ticks late is no more finer ones late
  abbrev IsRounded : ℕ → ℕ → Type 0
  IsRounded finer tick = finer ≤ k * tick + o

  arrives_by : (n h : ℕ) → IsRounded (arrive fine schedule n h) (arrive plan whole n h)
  arrives_by n h =
      subst (IsRounded (arrive fine schedule n h)) (sym (arrives used k plan fine is o less schedule (order_among plan fine schedule) n h))
      (from_holds k is.some o less (arrive fine schedule n h))

  settles_by : (n g : ℕ) → IsRounded (settle fine schedule n g) (settle plan whole n g)
  settles_by n g =
      subst (IsRounded (settle fine schedule n g)) (sym (settles used k plan fine is o less schedule (order_among plan fine schedule) n g))
      (from_holds k is.some o less (settle fine schedule n g))

  finishes_by : (n g : ℕ) → IsRounded (last_at fine schedule finer_ways g n) (last_at plan whole ways g n)
  finishes_by n g =
      let last : ℕ = last_at plan whole ways g n in
      let end : ℕ → ℕ = λ h. arrive plan whole n h + way_at ways n h in
      let committed = settles_by n g in
      let rise = times_rise k (settle plan whole n g) last (omega arith) in
      let answered =
      subst (λ hs. greatest (map (λ h. arrive fine schedule n h + way_at finer_ways n h) hs) ≤ k * last + o) (sym (same_message k plan fine is n).destinations)
      (greatest_most (λ h. arrive fine schedule n h + way_at finer_ways n h) (k * last + o) (message_at plan n).destinations (λ h i.
      let most = in_greatest end h (message_at plan n).destinations i in
      let higher = times_rise k (end h) last (omega arith) in
      let come = arrives_by n h in
      let way = no_longer n h in
      let parts = times_plus k (arrive plan whole n h) (way_at ways n h) in
      omega arith)) in
      omega arith

  -- the same is ahead
  ahead_same : (t g : ℕ) → ahead_of fine schedule t g ≡ ahead_of plan whole t g
  ahead_same t g =
      let rounded = is_rounded used k plan fine is o less well real schedule in
      let moved : ℕ → ℕ = λ x. up_from k o x in
      filter_same (λ n. is_less (local_stamp fine schedule n g) (final_stamp fine schedule t)) (λ n. is_less (local_stamp plan whole n g) (final_stamp plan whole t))
      (addressed_to fine g)
      (λ n. ap₂ is_less
      (sym (same_local (λ x. up_from k o x.tick) (rank_among (unordered_moments fine schedule)) plan whole fine schedule rounded n g))
      (sym (same_final (λ x. up_from k o x.tick) (rank_among (unordered_moments fine schedule)) plan whole fine schedule rounded t)))
      ∙ ap (filter (λ n. is_less (local_stamp plan whole n g) (final_stamp plan whole t))) (same_addressed_to k plan fine is g)

  latest_by : (t g : ℕ) → IsRounded (latest_at fine schedule finer_ways t g) (latest_at plan whole ways t g)
  latest_by t g =
      let latest : ℕ = latest_at plan whole ways t g in
      let all : List ℕ = t ∷ ahead_of plan whole t g in
      subst (λ ns. greatest (map (last_at fine schedule finer_ways g) (t ∷ ns)) ≤ k * latest + o) (sym (ahead_same t g))
      (greatest_most (last_at fine schedule finer_ways g) (k * latest + o) all (λ n i.
      let most = in_greatest (last_at plan whole ways g) n all i in
      let rise = times_rise k (last_at plan whole ways g n) latest most in
      let by = finishes_by n g in
      omega arith))

  -- so a message that is issued so much past a whole tick is finished no longer after its issue
  latency_by : (t g issued : ℕ) → issue fine schedule t ≡ k * issued + o
      → latest_at fine schedule finer_ways t g - issue fine schedule t ≤ k * (latest_at plan whole ways t g - issue plan whole t)
  latency_by t g issued at =
      let start : issue plan whole t ≡ issued =
      issues used k plan fine is o less schedule (order_among plan fine schedule) t ∙ ap (up_from k o) at ∙ from_offset k is.some o less issued in
      let latest : ℕ = latest_at plan whole ways t g in
      let by = latest_by t g in
      let rest : ℕ = latest - issued in
      let rise = times_rise k latest (issued + rest) (omega arith) in
      let parts = times_plus k issued rest in
      let same : k * (latest - issue plan whole t) ≡ k * rest = ap (λ n. k * (latest - n)) start in
      omega arith

pub finer_finishes : Used → ScenariosAreRoundable → LatestFinishes → FinishesInFinerTicks
unfolding finish_latency
finer_finishes used roundable latest k plan fine ways finer_ways latency well real is no_longer upper =
    let rounds : IsRoundable plan = roundable plan well in
    let goes : GoesTo fine fine.target_message fine.target_group =
    subst₂ (λ t g. GoesTo fine t g) (sym is.target_message) (sym is.target_group) (goes_too k plan fine is plan.target_message plan.target_group well.addressed) in
    upper_of_latencies fine finer_ways (k * latency) goes (λ schedule given.
    let start : ℕ = issue fine schedule plan.target_message in
    let o : ℕ = start % k in
    let less : o < k = mod-lt start (omega (arith, is.some)) in
    let parts : start ≡ k * (start / k) + o = omega arith in
    let run : Schedule = whole_in k o plan fine schedule (order_among plan fine schedule) in
    let most = latencies_of_upper latest plan ways latency well upper run (whole_is_assignment used k plan fine is ways finer_ways no_longer o less rounds real schedule given) in
    let by = latency_by used k plan fine is ways finer_ways no_longer o less rounds real schedule plan.target_message plan.target_group (start / k) parts in
    let rise = times_rise k (finish_latency plan ways run) latency most in
    let mine : latest_at fine schedule finer_ways plan.target_message plan.target_group - issue fine schedule plan.target_message ≤ k * latency = omega arith in
    subst₂ (λ t g. latest_at fine schedule finer_ways t g - issue fine schedule t ≤ k * latency) (sym is.target_message) (sym is.target_group) mine)
