-- The run of the image in which all happens at the ticks that become of those of the run through outages: it gives the same stamps, and is as late or later.
use Rattle.std.proofs.Common.{◌≡◌, ℕ, ◌+◌, ◌-◌, ◌*◌, ◌<◌, ◌≤◌, ◌==◌, ◌&&◌, ◌||◌, max, Bool, true, false, not, if◌then◌else◌, nat_le, nat_lt, inl, inr, List, [], ◌∷◌, length, get_or, map, filter, fold, Option, Some, None, refl, sym, ap, ap₂, subst, ◌∙◌, arith}
use Rattle.std.specs.List.{list_any, range_with_len}
use Rattle.std.proofs.lemmas.Bool.{false≢true, ltb-true}
use Rattle.std.proofs.lemmas.List.{get_or-map}
use Rattle.std.proofs.lemmas.Option.{same_Some, slice_get-get_or, slice_get_within}
use Rattle.convoy_scenario.specs.Scenario.{Scenario, GoesTo, is_addressed, message_at, message_numbers}
use Rattle.convoy_packets.specs.declared.packet.Packet.{Packet}
use Rattle.convoy_packets.specs.declared.packet.Packet.TheVariants.{Wait, Multicast, Propose}
use Rattle.convoy_packets.specs.Packets.{is_wait, packets_of, place_of}
use Rattle.convoy_packets.specs.Order.{AreRanks, rank_at}
use Rattle.convoy_packets.specs.Assignment.{Schedule, AreWithin, IsAssignment, IsWithin, delay_of, range_of, ranges_of}
use Rattle.convoy_packets.specs.ScheduleLaws.{is_sent}
use Rattle.convoy_sim.specs.declared.moment.Moment.{Moment}
use Rattle.convoy_sim.specs.declared.moment.MomentKind.TheVariants.{Arrival, Commit}
use Rattle.convoy_sim.specs.Times.{issue, arrive, settle, propose_arrive}
use Rattle.convoy_sim.specs.Moments.{is_before, is_kind_before, is_same_kind, rank_in, arrival_rank, rank_then, commit_rank}
use Rattle.convoy_sim.specs.Stamps.{is_less}
use Rattle.convoy_sim.specs.Delivery.{addressed_to, holds_back, is_free, deliver}
use Rattle.convoy_sim.proofs.Membership.{IsIn}
use Rattle.convoy_sim.proofs.Addressed.{goes_of_addressed, in_of_goes, number_of_goes}
use Rattle.convoy_origin.proofs.Lists.{all_zip_made, filter_same}
use Rattle.convoy_origin.proofs.PacketDelays.{delay_at_place, no_delay, sent_of_in, unsent_if_nowhere}
use Rattle.convoy_origin.proofs.SameRun.{IsMoved, moment_at, moved, same_local, same_final}
use Rattle.convoy_origin.proofs.Delivered.{delivered_by, delivered_free}
use Rattle.convoy_laws.specs.FinerTicks.{finer_range}
use Rattle.convoy_laws.proofs.SameParts.{same_multicast, same_propose}
use Rattle.convoy_outages.specs.Outages.{Outages, sent_at, worked_ticks}
use Rattle.convoy_outage_runs.specs.OutageRuns.{IsRunThrough, LastInAll}
use Rattle.convoy_outage_runs.specs.Compressed.{compressed, shortest_travel}
use Rattle.convoy_outage_runs.proofs.Used.{Used}
use Rattle.convoy_outage_runs.proofs.Slowed.{delay_first, delay_last, latest, latest_at_most, latest_past, slowed_before, slowed_greatest, slowed_rises, slowed_same}
use Rattle.convoy_outage_runs.proofs.Squeezed.{shortest_is_least, squeezed_range, squeezed_sends}
use Rattle.convoy_outage_runs.proofs.Told.{told_sends}
use Rattle.convoy_outage_runs.proofs.Image.{image, image_addressed, image_at, image_destinations, image_many, image_parts, image_range, image_wait, is_finer, slow}

-- tests that agree on the elements of a list let through one of them, or none
any_among : {X : Type 0} (p q : X → Bool) (xs : List X) → ((x : X) → IsIn x xs → p x ≡ q x) → list_any p xs ≡ list_any q xs
any_among p q [] h = refl
any_among p q (x ∷ xs) h = ap₂ (λ a b. a || b) (h x (inl refl)) (any_among p q xs (λ y i. h y (inr i)))

map_same : (f g : ℕ → ℕ) (xs : List ℕ) → ((x : ℕ) → f x ≡ g x) → map f xs ≡ map g xs
map_same f g [] h = refl
map_same f g (x ∷ xs) h = ap₂ (λ y ys. y ∷ ys) (h x) (map_same f g xs h)

module _ (down : Outages) (k times span : ℕ) (plan told : Scenario) (schedule : Schedule) where
  abbrev fine : Scenario
  fine = image down k times span plan told schedule

  abbrev later : ℕ → ℕ
  later = slow down k times span plan told schedule

  abbrev squeezed : Scenario
  squeezed = compressed k span plan

  -- the tick at which the target is issued
  abbrev moment : ℕ
  moment = issue told schedule told.target_message

  -- each packet is on its way between the ticks that become of those between which it is
  abbrev delay_there : Packet → ℕ
  delay_there (Wait m) = 0
  delay_there (Multicast m g) = later (arrive told schedule m g) - later (issue told schedule m)
  delay_there (Propose m h g) = later (propose_arrive told schedule m g h) - later (arrive told schedule m h)

  abbrev pub image_run : Schedule
  image_run = record { delays = map delay_there (packets_of fine); order = schedule.order }

  later_rises : (a b : ℕ) → a ≤ b → later a + (b - a) ≤ later b
  later_rises = slowed_rises down k moment

  later_before : (x y : Moment) → is_before (moved (λ z. later z.tick) (λ z. z.rank) x) (moved (λ z. later z.tick) (λ z. z.rank) y) ≡ is_before x y
  later_before x y =
      ap₂ (λ a b. a || (b && (nat_lt x.rank y.rank
      || ((x.rank == y.rank)
      && (is_kind_before x.kind y.kind
      || (is_same_kind x.kind y.kind && (nat_lt x.message y.message || ((x.message == y.message) && nat_lt x.group y.group))))))))
      (slowed_before down k moment x.tick y.tick) (slowed_same down k moment x.tick y.tick)

  goes_in_run : (m g : ℕ) → GoesTo fine m g → GoesTo told m g
  goes_in_run m g goes = sym (image_addressed down k times span plan told schedule m g) ∙ goes

  goes_in_image : (m g : ℕ) → GoesTo told m g → GoesTo fine m g
  goes_in_image m g goes = image_addressed down k times span plan told schedule m g ∙ goes

  module _ (used : Used) (run : IsRunThrough down times plan told schedule) (some : 1 ≤ k) (short : LastInAll (times * span) down) (target : plan.target_message < length plan.multicasts) where
    -- ---- the same packets travel in the image, in the compressed scenario, in the scenario and in the run
    image_sends : (packet : Packet) → is_wait packet ≡ false → is_sent fine packet ≡ is_sent squeezed packet
    image_sends (Wait m) travels = absurd (false≢true (sym travels))
    image_sends (Multicast m g) travels = same_multicast (k * times) squeezed fine (is_finer down k times span plan told schedule run some short target) m g
    image_sends (Propose m h g) travels = same_propose (k * times) squeezed fine (is_finer down k times span plan told schedule run some short target) m h g

    same_sends : (packet : Packet) → is_wait packet ≡ false → is_sent told packet ≡ is_sent fine packet
    same_sends packet travels =
        told_sends down times plan told schedule run packet travels
        ∙ sym (image_sends packet travels ∙ squeezed_sends k span plan packet travels)

    unsent : (packet : Packet) → is_sent fine packet ≡ false → delay_there packet ≡ 0
    unfolding arrive
    unsent (Wait m) none = refl
    unsent (Multicast m g) none =
        let delay = used.unsent told schedule (Multicast m g) (ap not (same_sends (Multicast m g) refl ∙ none)) in
        let same : arrive told schedule m g ≡ issue told schedule m = omega arith in
        let there = ap later same in
        omega arith
    unsent (Propose m h g) none =
        let delay = used.unsent told schedule (Propose m h g) (ap not (same_sends (Propose m h g) refl ∙ none)) in
        let same : propose_arrive told schedule m g h ≡ arrive told schedule m h = omega arith in
        let there = ap later same in
        omega arith

    delay_is : (packet : Packet) → delay_of fine image_run packet ≡ delay_there packet
    delay_is packet = by_place (place_of packet (packets_of fine)) refl where
      by_place : (o : Option ℕ) → place_of packet (packets_of fine) ≡ o → delay_of fine image_run packet ≡ delay_there packet
      by_place None e = no_delay fine image_run packet e ∙ sym (unsent packet (unsent_if_nowhere used.sent fine packet e))
      by_place (Some i) e =
          let stands = used.places fine i packet e in
          let here = slice_get_within (packets_of fine) i packet stands in
          let same : get_or (packets_of fine) i packet ≡ packet = same_Some (get_or (packets_of fine) i packet) packet (sym (slice_get-get_or (packets_of fine) i packet here) ∙ stands) in
          delay_at_place fine image_run packet i e ∙ get_or-map delay_there (packets_of fine) i packet 0 here ∙ ap delay_there same

    -- ---- its times
    pub issues : (m : ℕ) → m < length told.multicasts → issue fine image_run m ≡ later (issue told schedule m)
    issues m l =
        let first = image_at down k times span plan told schedule m l in
        let wait = delay_is (Wait m) in
        omega arith

    arrives : (m g : ℕ) → m < length told.multicasts → arrive fine image_run m g ≡ later (arrive told schedule m g)
    unfolding arrive
    arrives m g l =
        let start = issues m l in
        let delay = delay_is (Multicast m g) in
        let rise = later_rises (issue told schedule m) (arrive told schedule m g) (omega arith) in
        omega arith

    proposes : (m g h : ℕ) → m < length told.multicasts → propose_arrive fine image_run m g h ≡ later (propose_arrive told schedule m g h)
    proposes m g h l =
        let start = arrives m h l in
        let delay = delay_is (Propose m h g) in
        let rise = later_rises (arrive told schedule m h) (propose_arrive told schedule m g h) (omega arith) in
        omega arith

    settles : (m g : ℕ) → GoesTo told m g → settle fine image_run m g ≡ later (settle told schedule m g)
    unfolding settle
    settles m g goes =
        ap (λ hs. fold max 0 (map (propose_arrive fine image_run m g) hs)) (image_destinations down k times span plan told schedule m)
        ∙ among (message_at told m).destinations (in_of_goes told m g goes) where
          among : (hs : List ℕ) → IsIn g hs → fold max 0 (map (propose_arrive fine image_run m g) hs) ≡ later (fold max 0 (map (propose_arrive told schedule m g) hs))
          among [] i = absurd i
          among (h ∷ hs) i =
              slowed_greatest down k moment (propose_arrive fine image_run m g) (propose_arrive told schedule m g) h hs
              (λ n. proposes m g n (number_of_goes told m g goes))

    -- ---- its moments
    arrival_rank_is : (m g : ℕ) → arrival_rank fine image_run m g ≡ arrival_rank told schedule m g
    unfolding arrival_rank
    arrival_rank_is m g = ap (λ t. rank_in t (rank_at schedule.order.arrivals m g)) (image_parts down k times span plan told schedule).0

    rank_then_is : (m g h : ℕ) → GoesTo told m g → rank_then fine image_run m (settle fine image_run m g) h ≡ rank_then told schedule m (settle told schedule m g) h
    rank_then_is m g h goes =
        ap₂ (λ (b : Bool) (r : ℕ). if b then r else 0)
        (ap₂ (λ (x y : ℕ). x == y) (arrives m h (number_of_goes told m g goes)) (settles m g goes)
        ∙ slowed_same down k moment (arrive told schedule m h) (settle told schedule m g))
        (arrival_rank_is m h)

    commit_rank_is : (m g : ℕ) → GoesTo told m g → commit_rank fine image_run m g ≡ commit_rank told schedule m g
    unfolding commit_rank
    commit_rank_is m g goes =
        ap₂ (λ (c : ℕ) (rs : List ℕ). fold max 0 (c ∷ rs))
        (ap (λ t. rank_in t (rank_at schedule.order.commits m g)) (image_parts down k times span plan told schedule).0)
        (ap (map (rank_then fine image_run m (settle fine image_run m g))) (image_destinations down k times span plan told schedule m)
        ∙ map_same (rank_then fine image_run m (settle fine image_run m g)) (rank_then told schedule m (settle told schedule m g)) (message_at told m).destinations (λ h. rank_then_is m g h goes))

    same_moments : IsMoved (λ x. later x.tick) (λ x. x.rank) fine image_run told schedule
    same_moments = record {
      numbers = sym (ap (range_with_len 0) (image_many down k times span plan told schedule));
      destinations = λ m. sym (image_destinations down k times span plan told schedule m);
      groups = sym (image_parts down k times span plan told schedule).1;
      arrivals = λ m g goes.
          let there = goes_in_run m g goes in
          ap₂ (moment_at Arrival m g) (arrives m g (number_of_goes told m g there)) (arrival_rank_is m g);
      commits = λ m g goes.
          let there = goes_in_run m g goes in
          ap₂ (moment_at Commit m g) (settles m g there) (commit_rank_is m g there);
      before = λ x y i j. later_before x y;
    }

    -- ---- its deliveries
    same_addressed_to : (g : ℕ) → addressed_to fine g ≡ addressed_to told g
    same_addressed_to g =
        filter_same (λ n. is_addressed (message_at fine n) g) (λ n. is_addressed (message_at told n) g) (message_numbers fine) (λ n. image_addressed down k times span plan told schedule n g)
        ∙ ap (filter (λ n. is_addressed (message_at told n) g)) (ap (range_with_len 0) (image_many down k times span plan told schedule))

    -- what holds a message back in the image at a time does so in the run at the last tick that has become of no later a time
    free_same : (m g late last : ℕ) → later last ≤ late → ((early : ℕ) → later early ≤ late → early ≤ last) → is_free fine image_run m g late ≡ is_free told schedule m g last
    unfolding holds_back
    free_same m g late last by least =
        ap not
        (any_among (holds_back fine image_run m g late) (holds_back told schedule m g last) (addressed_to fine g)
        (λ n i.
        let goes = goes_in_run n g (goes_of_addressed fine n g i) in
        ap₂ (λ a b. a && b)
        (ap₂ (λ a b. a && b)
        (ap (λ t. nat_le t late) (arrives n g (number_of_goes told n g goes)) ∙ latest_at_most down k moment late last (arrive told schedule n g) by least)
        (ap₂ is_less (same_local (λ x. later x.tick) (λ x. x.rank) fine image_run told schedule same_moments n g) (same_final (λ x. later x.tick) (λ x. x.rank) fine image_run told schedule same_moments m)))
        (ap (nat_lt late) (settles n g goes) ∙ latest_past down k moment late last (settle told schedule n g) by least))
        ∙ ap (list_any (holds_back told schedule m g last)) (same_addressed_to g))

    pub delivers : (m g : ℕ) → GoesTo told m g → later (deliver told schedule m g) ≤ deliver fine image_run m g
    delivers m g goes =
        let late : ℕ = deliver fine image_run m g in
        let done = delivered_free fine image_run m g (goes_in_image m g goes) in
        let committed : later (settle told schedule m g) ≤ late = subst (λ t. t ≤ late) (settles m g goes) done.0 in
        let first = later_rises 0 (settle told schedule m g) (omega arith) in
        let last = latest down k moment late (omega arith) in
        let soon = delivered_by told schedule m g last.0 (last.2 (settle told schedule m g) committed) (sym (free_same m g late last.0 last.1 last.2) ∙ done.1) in
        let rise = later_rises (deliver told schedule m g) last.0 soon in
        let by = last.1 in
        omega arith

    -- ---- it is an assignment
    module _ (shortest : k ≤ shortest_travel plan) where
      -- what travels keeps its range
      travels_within : (packet : Packet) (start : ℕ) → is_sent fine packet ≡ true → is_wait packet ≡ false → sent_at told schedule packet ≡ start
          → delay_there packet ≡ later (start + delay_of told schedule packet) - later start → IsWithin (range_of fine packet) (delay_there packet)
      travels_within packet start sent travels begins same =
          let there : is_sent squeezed packet ≡ true = sym (image_sends packet travels) ∙ sent in
          let here : is_sent plan packet ≡ true = sym (squeezed_sends k span plan packet travels) ∙ there in
          let least = shortest_is_least plan packet here travels in
          let parts = squeezed_range k span plan some packet travels (omega arith) in
          let low = delay_first down k moment times span some short start (delay_of told schedule packet) (range_of plan packet).0 (range_of squeezed packet).0 parts.0
          (run.least packet here travels) in
          let high = delay_last down k moment times span some short start (delay_of told schedule packet) (range_of plan packet).1 (range_of squeezed packet).1 parts.1
          (subst (λ (n : ℕ). worked_ticks down n (n + delay_of told schedule packet) ≤ times * (range_of plan packet).1) begins (run.most packet here travels)) in
          subst (λ (range : ℕ × ℕ). IsWithin range (delay_there packet)) (sym (image_range down k times span plan told schedule run some short target packet there travels))
          (subst (λ (delay : ℕ). IsWithin (finer_range (k * times) (range_of squeezed packet)) delay) (sym same) (low, high))

      delay_within : (packet : Packet) → is_sent fine packet ≡ true → IsWithin (range_of fine packet) (delay_there packet)
      unfolding arrive
      delay_within (Wait m) sent =
          let none = image_wait down k times span plan told schedule m in
          absurd (let waits = ltb-true 0 (message_at fine m).longest_wait sent in omega arith)
      delay_within (Multicast m g) sent = travels_within (Multicast m g) (issue told schedule m) sent refl refl refl
      delay_within (Propose m h g) sent = travels_within (Propose m h g) (arrive told schedule m h) sent refl refl refl

      delays_within : AreWithin (ranges_of fine) image_run.delays
      unfolding ranges_of
      delays_within = all_zip_made IsWithin (range_of fine) delay_there (packets_of fine) (λ packet i. delay_within packet (sent_of_in used.sent fine packet i))

      ranks_too : (ranks : List ℕ) → AreRanks told ranks → AreRanks fine ranks
      ranks_too ranks are = record {
        long = are.long;
        small = are.small;
        nowhere = λ m g few below elsewhere. are.nowhere m g few below (sym (image_addressed down k times span plan told schedule m g) ∙ elsewhere);
      }

      pub is_assignment : IsAssignment fine image_run
      is_assignment = record {
        delays = delays_within;
        order = record {
          arrivals = ranks_too schedule.order.arrivals run.order.arrivals;
          commits = ranks_too schedule.order.commits run.order.commits;
          fixed = λ ticks. run.order.fixed (sym (image_parts down k times span plan told schedule).0 ∙ ticks);
        };
      }
