-- A run in whole ticks, told in finer ones: each delay so many times as long, and the same ranks. It is as many times as late.
use Rattle.std.proofs.Common.{◌≡◌, ℕ, suc, ◌+◌, ◌-◌, ◌*◌, ◌/◌, ◌≤◌, ◌==◌, max, Bool, true, false, ◌&&◌, ◌||◌, Option, Some, None, if◌then◌else◌, nat_lt, nat_le, inl, inr, List, [], ◌∷◌, ◌++◌, get_or, map, fold, refl, sym, ap, ap₂, subst, subst₂, ◌∙◌, arith}
use Rattle.std.specs.List.{AllZip, flat_map, enumerate_from}
use Rattle.std.proofs.lemmas.Bool.{cases_Bool, ltb-false}
use Rattle.convoy_scenario.specs.declared.sender.Sender.{Sender}
use Rattle.convoy_scenario.specs.Scenario.{Message, Scenario, GoesTo, TakeTimeAlike, may_wait, no_message, message_at, stamp_takes_time, takes_time}
use Rattle.convoy_scenario.proofs.TakingTime.{same_takes}
use Rattle.convoy_packets.specs.declared.packet.Packet.{Packet}
use Rattle.convoy_packets.specs.declared.packet.Packet.TheVariants.{Wait, Multicast, Propose}
use Rattle.convoy_packets.specs.Packets.{message_packets, multicast_packets, propose_packets, wait_packets, packets_of, place_of}
use Rattle.convoy_packets.specs.Order.{AreRanks, rank_at}
use Rattle.convoy_packets.specs.Assignment.{Schedule, AreWithin, IsAssignment, delay_of, range_of, ranges_of}
use Rattle.convoy_packets.specs.ScheduleLaws.{PacketsAreThoseSent}
use Rattle.convoy_sim.specs.declared.moment.Moment.{Moment}
use Rattle.convoy_sim.specs.declared.moment.MomentKind.TheVariants.{Arrival, Commit}
use Rattle.convoy_sim.specs.Times.{issue, arrive, settle, propose_arrive}
use Rattle.convoy_sim.specs.Moments.{is_before, is_kind_before, is_same_kind, rank_in, arrival_rank, rank_then, commit_rank}
use Rattle.convoy_sim.specs.Delivery.{deliver, latency_at, latency_of}
use Rattle.convoy_sim.specs.ProtocolLaws.{ArrivesBeforeCommit}
use Rattle.convoy_laws.specs.FinerTicks.{AreSameRanges, IsFiner, IsFinerMessage, IsRoundable, finer_range, FinerRunsAreMatched, GreatestInFinerTicks, GreatestIsWhole, WholeTicksAreEnough}
use Rattle.convoy_origin.proofs.PacketDelays.{delay_at_place, no_delay, sent_of_in}
use Rattle.convoy_laws.proofs.Ceiling.{times_rise, times_fall, times_plus}
use Rattle.convoy_laws.proofs.Scaled.{times_greatest, times_at, times_within, times_before, times_same, floor_rises, floor_falls, floor_at_most, floor_past}
use Rattle.convoy_laws.proofs.SameParts.{same_message, same_numbers, fixed_too, same_addressed, same_addressed_to, goes_too}
use Rattle.convoy_origin.proofs.SameRun.{IsMoved, moment_at, moved, same_local, same_final}
use Rattle.convoy_origin.proofs.Lists.{filter_same, map_made}
use Rattle.convoy_origin.proofs.Delivered.{IsSameHold, free_same, delivered_by, delivered_free}

-- the schedule in finer ticks
abbrev stretched : ℕ → Schedule → Schedule
stretched k schedule = record { delays = map (λ d. k * d) schedule.delays; order = schedule.order }

-- a moment in finer ticks
abbrev stretch : ℕ → Moment → Moment
stretch k = moved (λ x. k * x.tick) (λ x. x.rank)

map_same : (f g : ℕ → ℕ) (xs : List ℕ) → ((x : ℕ) → f x ≡ g x) → map f xs ≡ map g xs
map_same f g [] h = refl
map_same f g (x ∷ xs) h = ap₂ (λ y ys. y ∷ ys) (h x) (map_same f g xs h)

stretch_before : (k : ℕ) → 1 ≤ k → (x y : Moment) → is_before (stretch k x) (stretch k y) ≡ is_before x y
stretch_before k some x y =
    ap₂ (λ a b. a || (b && (nat_lt x.rank y.rank
    || ((x.rank == y.rank)
    && (is_kind_before x.kind y.kind
    || (is_same_kind x.kind y.kind && (nat_lt x.message y.message || ((x.message == y.message) && nat_lt x.group y.group))))))))
    (times_before k some x.tick y.tick) (times_same k some x.tick y.tick)

-- the list of packets tells of a message who sends it, where it goes, and whether it may wait
abbrev packets_told : Scenario → ℕ → Bool → Sender → List ℕ → List Packet
packets_told plan m waits sender destinations = message_packets plan m (record { name = []; sender = sender; destinations = destinations; at = 0; longest_wait = if waits then 1 else 0 })

told_packets : (plan : Scenario) (m : ℕ) (message : Message) → message_packets plan m message ≡ packets_told plan m (may_wait message) message.sender message.destinations
told_packets plan m message =
    ap (λ (waits : Bool). (if waits then Wait m ∷ [] else []) ++ (multicast_packets plan m message ++ flat_map (propose_packets plan m message) message.destinations))
    (sym (may_wait_told (may_wait message))) where
      may_wait_told : (waits : Bool) → nat_lt 0 (if waits then 1 else 0) ≡ waits
      may_wait_told true = refl
      may_wait_told false = refl

-- where the same takes time, a message has the same packets
pub same_sends : (plan fine : Scenario) → TakeTimeAlike plan fine → (m : ℕ) (message : Message) → message_packets fine m message ≡ message_packets plan m message
same_sends plan fine takes m message =
    ap₂ (λ (gs : List ℕ) (stamps : List Packet). wait_packets m message ++ (map (λ g. Multicast m g) gs ++ stamps))
    (filter_same (takes_time fine message.sender) (takes_time plan message.sender) message.destinations (takes.messages message.sender))
    (same_stamps message.destinations) where
      same_stamps : (hs : List ℕ) → flat_map (propose_packets fine m message) hs ≡ flat_map (propose_packets plan m message) hs
      same_stamps [] = refl
      same_stamps (h ∷ hs) =
          ap₂ ◌++◌
          (ap (map (λ g. Propose m h g)) (filter_same (stamp_takes_time fine h) (stamp_takes_time plan h) message.destinations (takes.stamps h)))
          (same_stamps hs)

module _ (k : ℕ) (plan fine : Scenario) (takes : TakeTimeAlike plan fine) where
  packets_in : (n : ℕ) (xs ys : List Message) → AllZip (IsFinerMessage k) xs ys
      → ((m : ℕ) → may_wait (get_or ys m no_message) ≡ may_wait (get_or xs m no_message))
      → flat_map (λ p. message_packets fine p.0 p.1) (enumerate_from n ys) ≡ flat_map (λ p. message_packets plan p.0 p.1) (enumerate_from n xs)
  packets_in n [] [] h waits = refl
  packets_in n [] (y ∷ ys) h waits = absurd h
  packets_in n (x ∷ xs) [] h waits = absurd h
  packets_in n (x ∷ xs) (y ∷ ys) h waits =
      ap₂ ◌++◌
      (same_sends plan fine takes n y
      ∙ told_packets plan n y
      ∙ ap (λ b. packets_told plan n b y.sender y.destinations) (waits 0)
      ∙ ap₂ (packets_told plan n (may_wait x)) h.0.sender h.0.destinations
      ∙ sym (told_packets plan n x))
      (packets_in (n + 1) xs ys h.1 (λ m. waits (suc m)))

-- ---- with the same ranges a message may be issued at the same times, so the packets are the same
module _ (sent : PacketsAreThoseSent) (k : ℕ) (plan fine : Scenario) (is : IsFiner k plan fine) (same : AreSameRanges k plan fine) where
  same_window : (m : ℕ) → ((message_at fine m).at ≡ k * (message_at plan m).at) × ((message_at fine m).longest_wait ≡ k * (message_at plan m).longest_wait)
  same_window m = elim (cases_Bool (may_wait (message_at plan m))) [
    | inl waits ↦
        let wait : (message_at fine m).longest_wait ≡ k * (message_at plan m).longest_wait = ap (λ (range : ℕ × ℕ). range.1) (same (Wait m) waits) in
        let first = (same_message k plan fine is m).at in
        let last = (same_message k plan fine is m).until in
        let parts = times_plus k (message_at plan m).at (message_at plan m).longest_wait in
        (omega arith, wait)
    | inr fixed ↦
        let none : (message_at plan m).longest_wait ≡ 0 = omega (arith, ltb-false 0 (message_at plan m).longest_wait fixed) in
        let too = fixed_too k plan fine is m none in
        let times = ap (λ n. k * n) none in
        (too.0, omega arith)
  ]

  waits_too : (m : ℕ) → may_wait (message_at fine m) ≡ may_wait (message_at plan m)
  waits_too m =
      let never : 0 ≡ k * 0 = omega arith in
      ap₂ nat_lt never (same_window m).1 ∙ times_before k is.some 0 (message_at plan m).longest_wait

  same_packets : packets_of fine ≡ packets_of plan
  unfolding packets_of
  same_packets = packets_in k plan fine (same_takes plan fine is.homes) 0 plan.multicasts fine.multicasts is.messages waits_too

  same_list : ranges_of fine ≡ map (finer_range k) (ranges_of plan)
  unfolding ranges_of
  same_list =
      ap (map (range_of fine)) same_packets
      ∙ map_made (finer_range k) (range_of fine) (range_of plan) (packets_of plan) (λ p i. same p (sent_of_in sent plan p i))

module _ (sent : PacketsAreThoseSent) (k : ℕ) (plan fine : Scenario) (is : IsFiner k plan fine) (same : AreSameRanges k plan fine) (time : fine.time ≡ plan.time) (schedule : Schedule) where
  abbrev long : Schedule
  long = stretched k schedule

  -- ---- its times
  delay_is : (p : Packet) → delay_of fine long p ≡ k * delay_of plan schedule p
  delay_is p = by_place (place_of p (packets_of plan)) refl where
    by_place : (o : Option ℕ) → place_of p (packets_of plan) ≡ o → delay_of fine long p ≡ k * delay_of plan schedule p
    by_place None e =
        let none = no_delay plan schedule p e in
        let times : k * delay_of plan schedule p ≡ k * 0 = ap (λ n. k * n) none in
        let finer = no_delay fine long p (ap (place_of p) (same_packets sent k plan fine is same) ∙ e) in
        omega arith
    by_place (Some i) e =
        delay_at_place fine long p i (ap (place_of p) (same_packets sent k plan fine is same) ∙ e)
        ∙ times_at k schedule.delays i
        ∙ ap (λ n. k * n) (sym (delay_at_place plan schedule p i e))

  issues : (m : ℕ) → issue fine long m ≡ k * issue plan schedule m
  issues m =
      let first = (same_window sent k plan fine is same m).0 in
      let wait = delay_is (Wait m) in
      let parts = times_plus k (message_at plan m).at (delay_of plan schedule (Wait m)) in
      omega arith

  arrives : (m g : ℕ) → arrive fine long m g ≡ k * arrive plan schedule m g
  unfolding arrive
  arrives m g =
      let start = issues m in
      let delay = delay_is (Multicast m g) in
      let parts = times_plus k (issue plan schedule m) (delay_of plan schedule (Multicast m g)) in
      omega arith

  proposes : (m g h : ℕ) → propose_arrive fine long m g h ≡ k * propose_arrive plan schedule m g h
  proposes m g h =
      let start = arrives m h in
      let delay = delay_is (Propose m h g) in
      let parts = times_plus k (arrive plan schedule m h) (delay_of plan schedule (Propose m h g)) in
      omega arith

  settles : (m g : ℕ) → settle fine long m g ≡ k * settle plan schedule m g
  unfolding settle
  settles m g =
      ap (λ hs. fold max 0 (map (propose_arrive fine long m g) hs)) (same_message k plan fine is m).destinations
      ∙ times_greatest k (propose_arrive fine long m g) (propose_arrive plan schedule m g) (message_at plan m).destinations (proposes m g)

  -- ---- its moments
  arrival_rank_is : (m g : ℕ) → arrival_rank fine long m g ≡ arrival_rank plan schedule m g
  unfolding arrival_rank
  arrival_rank_is m g = ap (λ t. rank_in t (rank_at schedule.order.arrivals m g)) time

  rank_then_is : (m g h : ℕ) → rank_then fine long m (settle fine long m g) h ≡ rank_then plan schedule m (settle plan schedule m g) h
  rank_then_is m g h =
      ap₂ (λ (b : Bool) (r : ℕ). if b then r else 0)
      (ap₂ (λ (x y : ℕ). x == y) (arrives m h) (settles m g) ∙ times_same k is.some (arrive plan schedule m h) (settle plan schedule m g))
      (arrival_rank_is m h)

  commit_rank_is : (m g : ℕ) → commit_rank fine long m g ≡ commit_rank plan schedule m g
  unfolding commit_rank
  commit_rank_is m g =
      ap₂ (λ (c : ℕ) (rs : List ℕ). fold max 0 (c ∷ rs))
      (ap (λ t. rank_in t (rank_at schedule.order.commits m g)) time)
      (ap (map (rank_then fine long m (settle fine long m g))) (same_message k plan fine is m).destinations
      ∙ map_same (rank_then fine long m (settle fine long m g)) (rank_then plan schedule m (settle plan schedule m g)) (message_at plan m).destinations (rank_then_is m g))

  is_stretched : IsMoved (λ x. k * x.tick) (λ x. x.rank) fine long plan schedule
  is_stretched = record {
    numbers = sym (same_numbers k plan fine is);
    destinations = λ m. sym (same_message k plan fine is m).destinations;
    groups = sym is.groups;
    arrivals = λ m g goes. ap₂ (moment_at Arrival m g) (arrives m g) (arrival_rank_is m g);
    commits = λ m g goes. ap₂ (moment_at Commit m g) (settles m g) (commit_rank_is m g);
    before = λ x y i j. stretch_before k is.some x y;
  }

  -- ---- its deliveries
  -- what holds a message back in finer ticks does so after the whole ticks that are past then
  holds_same : (m g late : ℕ) → IsSameHold fine long plan schedule m g late (late / k)
  holds_same m g late = record {
    goes = sym (same_addressed_to k plan fine is g);
    come = λ n. ap (λ t. nat_le t late) (arrives n g) ∙ floor_at_most k is.some (arrive plan schedule n g) late;
    local = λ n. same_local (λ x. k * x.tick) (λ x. x.rank) fine long plan schedule is_stretched n g;
    final = same_final (λ x. k * x.tick) (λ x. x.rank) fine long plan schedule is_stretched m;
    waits = λ n. ap (nat_lt late) (settles n g) ∙ floor_past k is.some (settle plan schedule n g) late;
  }

  module _ (arrivals : ArrivesBeforeCommit) (well : IsRoundable plan) where
    delivers : (m g : ℕ) → GoesTo plan m g → k * deliver plan schedule m g ≤ deliver fine long m g
    delivers m g goes =
        let late : ℕ = deliver fine long m g in
        let done = delivered_free fine long m g (goes_too k plan fine is m g goes) in
        let committed : k * settle plan schedule m g ≤ late = subst (λ t. t ≤ late) (settles m g) done.0 in
        let least = delivered_by plan schedule m g (late / k) (floor_rises k is.some (settle plan schedule m g) late committed)
        (sym (free_same fine long plan schedule m g late (late / k) (holds_same m g late)) ∙ done.1) in
        let rise = times_rise k (deliver plan schedule m g) (late / k) least in
        let falls = floor_falls k is.some late in
        omega arith

    issue_first : (m g : ℕ) → GoesTo plan m g → issue plan schedule m ≤ deliver plan schedule m g
    unfolding arrive
    issue_first m g goes =
        let done = delivered_free plan schedule m g goes in
        let committed = done.0 in
        let come = arrivals plan schedule m g g goes in
        omega arith

    latency_past : (m g : ℕ) → GoesTo plan m g → k * latency_at plan schedule m g ≤ latency_at fine long m g
    unfolding latency_at
    latency_past m g goes =
        let delivered = delivers m g goes in
        let low = issue_first m g goes in
        let issued = issues m in
        let wait : ℕ = deliver plan schedule m g - issue plan schedule m in
        let whole_wait : deliver plan schedule m g ≡ issue plan schedule m + wait = omega arith in
        let parts : k * deliver plan schedule m g ≡ k * issue plan schedule m + k * wait = ap (λ n. k * n) whole_wait ∙ times_plus k (issue plan schedule m) wait in
        omega arith

    target_past : k * latency_of plan schedule ≤ latency_of fine long
    unfolding latency_of
    target_past =
        subst₂ (λ m g. k * latency_at plan schedule plan.target_message plan.target_group ≤ latency_at fine long m g) (sym is.target_message) (sym is.target_group)
        (latency_past plan.target_message plan.target_group well.addressed)

  -- ---- it is an assignment
  ranks_too : (ranks : List ℕ) → AreRanks plan ranks → AreRanks fine ranks
  ranks_too ranks are = record {
    long = are.long;
    small = are.small;
    nowhere = λ m g few below elsewhere. are.nowhere m g few below (sym (same_addressed k plan fine is m g) ∙ elsewhere);
  }

  is_assignment : IsAssignment plan schedule → IsAssignment fine long
  is_assignment given = record {
    delays = subst (λ ranges. AreWithin ranges (map (λ d. k * d) schedule.delays)) (sym (same_list sent k plan fine is same)) (times_within k (ranges_of plan) schedule.delays given.delays);
    order = record {
      arrivals = ranks_too schedule.order.arrivals given.order.arrivals;
      commits = ranks_too schedule.order.commits given.order.commits;
      fixed = λ ticks. given.order.fixed (sym time ∙ ticks);
    };
  }

pub greatest_in_finer : WholeTicksAreEnough → PacketsAreThoseSent → ArrivesBeforeCommit → GreatestInFinerTicks
greatest_in_finer enough sent arrivals k plan fine latency well real finer_real is same greatest =
    let upper = enough k plan fine latency well real is greatest.upper in
    let time : fine.time ≡ plan.time = finer_real ∙ sym real in
    let run = greatest.reached in
    let given = is_assignment sent k plan fine is same time run.0 run.1 in
    let past = target_past sent k plan fine is same time run.0 arrivals well in
    let times : k * latency_of plan run.0 ≡ k * latency = ap (λ n. k * n) run.2 in
    let most = upper (stretched k run.0) given in
    record { reached = (stretched k run.0, given, omega arith); upper = upper }

pub greatest_whole : FinerRunsAreMatched → PacketsAreThoseSent → ArrivesBeforeCommit → GreatestIsWhole
greatest_whole matched sent arrivals k plan fine greatest well real finer_real is same top =
    let run = top.reached in
    let whole = matched k plan fine run.0 well real is run.1 in
    let latency : ℕ = latency_of plan whole.0 in
    let least = whole.2 in
    let reached = run.2 in
    let past = stretched_below whole.0 whole.1 in (
      latency,
      omega arith,
      record {
        reached = (whole.0, whole.1, refl);
        upper = λ schedule given.
            let below = stretched_below schedule given in
            times_fall k is.some (latency_of plan schedule) latency (omega arith);
      },
    ) where
      stretched_below : (schedule : Schedule) → IsAssignment plan schedule → k * latency_of plan schedule ≤ greatest
      stretched_below schedule given =
          let time : fine.time ≡ plan.time = finer_real ∙ sym real in
          let past = target_past sent k plan fine is same time schedule arrivals well in
          let most = top.upper (stretched k schedule) (is_assignment sent k plan fine is same time schedule given) in
          omega arith
