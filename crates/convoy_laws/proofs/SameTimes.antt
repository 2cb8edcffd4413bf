-- A run of a scenario, done at the same times where messages may be issued at other times: all happens as it did.
use Rattle.std.proofs.Common.{◌≡◌, ℕ, zero, suc, ◌+◌, ◌-◌, ◌==◌, max, true, false, ◌&&◌, not, if◌then◌else◌, nat_lt, nat_le, List, [], ◌∷◌, Bool, Option, Some, None, length, get_or, map, filter, fold, refl, sym, ap, ap₂, subst, ◌∙◌, arith}
use Rattle.std.specs.List.{AllZip, list_any, range_with_len}
use Rattle.std.proofs.lemmas.Bool.{ltb-false}
use Rattle.std.proofs.lemmas.List.{get_or-map}
use Rattle.std.proofs.lemmas.Option.{same_Some, slice_get-get_or, slice_get_within}
use Rattle.convoy_scenario.specs.Scenario.{Message, Scenario, no_message, message_at, message_numbers, is_addressed, range_between, stamp_takes_time, takes_time, window_of}
use Rattle.convoy_packets.specs.declared.packet.Packet.{Packet}
use Rattle.convoy_packets.specs.declared.packet.Packet.TheVariants.{Wait, Multicast, Propose}
use Rattle.convoy_packets.specs.Packets.{packets_of, place_of}
use Rattle.convoy_packets.specs.Order.{AreRanks, rank_at}
use Rattle.convoy_packets.specs.Assignment.{Schedule, AreWithin, IsAssignment, IsWithin, delay_of, range_of, ranges_of}
use Rattle.convoy_packets.specs.ScheduleLaws.{is_sent}
use Rattle.convoy_sim.specs.declared.moment.MomentKind.TheVariants.{Arrival, Commit}
use Rattle.convoy_sim.specs.Times.{issue, arrive, settle, propose_arrive}
use Rattle.convoy_sim.specs.Moments.{rank_in, arrival_rank, rank_then, commit_rank}
use Rattle.convoy_sim.specs.Delivery.{addressed_to, is_free, first_tick, last_commit, deliver, latency_at}
use Rattle.convoy_laws.specs.IssueWindows.{AreAlike, RunsFitOtherWindows, with_messages}
use Rattle.convoy_laws.proofs.Used.{Used}
use Rattle.convoy_origin.proofs.Lists.{all_zip_made, filter_same}
use Rattle.convoy_origin.proofs.PacketDelays.{delay_at_place, no_delay, sent_of_in, unsent_if_nowhere}
use Rattle.convoy_origin.proofs.SameRun.{IsMoved, moment_at, same_local, same_final}
use Rattle.convoy_origin.proofs.Delivered.{IsSameHold, free_same}

message_in : (xs ys : List Message) (m : ℕ) → AllZip AreAlike xs ys → AreAlike (get_or xs m no_message) (get_or ys m no_message)
message_in [] [] m h = record { sender = refl; destinations = refl }
message_in [] (y ∷ ys) m h = absurd h
message_in (x ∷ xs) [] m h = absurd h
message_in (x ∷ xs) (y ∷ ys) zero h = h.0
message_in (x ∷ xs) (y ∷ ys) (suc m) h = message_in xs ys m h.1

as_many : (xs ys : List Message) → AllZip AreAlike xs ys → length ys ≡ length xs
as_many [] [] h = refl
as_many [] (y ∷ ys) h = absurd h
as_many (x ∷ xs) [] h = absurd h
as_many (x ∷ xs) (y ∷ ys) h = ap suc (as_many xs ys h.1)

map_same : (f g : ℕ → ℕ) (xs : List ℕ) → ((x : ℕ) → f x ≡ g x) → map f xs ≡ map g xs
map_same f g [] h = refl
map_same f g (x ∷ xs) h = ap₂ (λ y ys. y ∷ ys) (h x) (map_same f g xs h)

-- tests that agree let one tick through first
same_first : (p q : ℕ → Bool) (more tick : ℕ) → ((t : ℕ) → p t ≡ q t) → first_tick p more tick ≡ first_tick q more tick
same_first p q zero tick h = refl
same_first p q (suc more) tick h =
    ap₂ (λ (b : Bool) (t : ℕ). if b then tick else t) (h tick) (same_first p q more (tick + 1) h)

module _ (scenario : Scenario) (messages : List Message) (alike : AllZip AreAlike scenario.multicasts messages) where
  abbrev other : Scenario
  other = with_messages messages scenario

  same_message : (m : ℕ) → AreAlike (message_at scenario m) (message_at other m)
  same_message m = message_in scenario.multicasts messages m alike

  same_numbers : message_numbers other ≡ message_numbers scenario
  same_numbers = ap (range_with_len 0) (as_many scenario.multicasts messages alike)

  same_addressed : (m g : ℕ) → is_addressed (message_at other m) g ≡ is_addressed (message_at scenario m) g
  same_addressed m g = ap (λ hs. list_any (λ h. h == g) hs) (same_message m).destinations

  same_addressed_to : (g : ℕ) → addressed_to other g ≡ addressed_to scenario g
  same_addressed_to g =
      filter_same (λ n. is_addressed (message_at other n) g) (λ n. is_addressed (message_at scenario n) g) (message_numbers other) (λ n. same_addressed n g)
      ∙ ap (filter (λ n. is_addressed (message_at scenario n) g)) same_numbers

  same_multicast : (m g : ℕ) → is_sent other (Multicast m g) ≡ is_sent scenario (Multicast m g)
  same_multicast m g =
      ap₂ (λ a b. a && b) (same_addressed m g) (ap (λ sender. takes_time scenario sender g) (same_message m).sender)

  same_propose : (m h g : ℕ) → is_sent other (Propose m h g) ≡ is_sent scenario (Propose m h g)
  same_propose m h g = ap₂ (λ a b. a && b && stamp_takes_time scenario h g) (same_addressed m h) (same_addressed m g)

  module _ (used : Used) (schedule : Schedule) (fits : (m : ℕ) → IsWithin (window_of (message_at other m)) (issue scenario schedule m)) where
    -- each message waits until it is issued, and packets take as long as they did
    abbrev delay_there : Packet → ℕ
    delay_there (Wait m) = issue scenario schedule m - (message_at other m).at
    delay_there (Multicast m g) = delay_of scenario schedule (Multicast m g)
    delay_there (Propose m h g) = delay_of scenario schedule (Propose m h g)

    abbrev pub run : Schedule
    run = record { delays = map delay_there (packets_of other); order = schedule.order }

    unsent : (p : Packet) → is_sent other p ≡ false → delay_there p ≡ 0
    unsent (Wait m) none =
        let no_wait : (message_at other m).longest_wait ≡ 0 = omega (arith, ltb-false 0 (message_at other m).longest_wait none) in
        let last = (fits m).1 in
        omega arith
    unsent (Multicast m g) none = used.unsent scenario schedule (Multicast m g) (ap not (sym (same_multicast m g) ∙ none))
    unsent (Propose m h g) none = used.unsent scenario schedule (Propose m h g) (ap not (sym (same_propose m h g) ∙ none))

    delay_is : (p : Packet) → delay_of other run p ≡ delay_there p
    delay_is p = by_place (place_of p (packets_of other)) refl where
      by_place : (o : Option ℕ) → place_of p (packets_of other) ≡ o → delay_of other run p ≡ delay_there p
      by_place None e = no_delay other run p e ∙ sym (unsent p (unsent_if_nowhere used.sent other p e))
      by_place (Some i) e =
          let stands = used.places other i p e in
          let here = slice_get_within (packets_of other) i p stands in
          let same : get_or (packets_of other) i p ≡ p = same_Some (get_or (packets_of other) i p) p (sym (slice_get-get_or (packets_of other) i p here) ∙ stands) in
          delay_at_place other run p i e ∙ get_or-map delay_there (packets_of other) i p 0 here ∙ ap delay_there same

    -- ---- its times
    issues : (m : ℕ) → issue other run m ≡ issue scenario schedule m
    issues m =
        let first = (fits m).0 in
        let wait = delay_is (Wait m) in
        omega arith

    arrives : (m g : ℕ) → arrive other run m g ≡ arrive scenario schedule m g
    unfolding arrive
    arrives m g = ap₂ ◌+◌ (issues m) (delay_is (Multicast m g))

    proposes : (m g h : ℕ) → propose_arrive other run m g h ≡ propose_arrive scenario schedule m g h
    proposes m g h = ap₂ ◌+◌ (arrives m h) (delay_is (Propose m h g))

    settles : (m g : ℕ) → settle other run m g ≡ settle scenario schedule m g
    unfolding settle
    settles m g =
        ap (λ hs. fold max 0 (map (propose_arrive other run m g) hs)) (same_message m).destinations
        ∙ ap (fold max 0) (map_same (propose_arrive other run m g) (propose_arrive scenario schedule m g) (message_at scenario m).destinations (proposes m g))

    -- ---- its moments
    arrival_rank_is : (m g : ℕ) → arrival_rank other run m g ≡ arrival_rank scenario schedule m g
    unfolding arrival_rank
    arrival_rank_is m g = refl

    rank_then_is : (m g h : ℕ) → rank_then other run m (settle other run m g) h ≡ rank_then scenario schedule m (settle scenario schedule m g) h
    rank_then_is m g h =
        ap₂ (λ (b : Bool) (r : ℕ). if b then r else 0) (ap₂ (λ (x y : ℕ). x == y) (arrives m h) (settles m g)) (arrival_rank_is m h)

    commit_rank_is : (m g : ℕ) → commit_rank other run m g ≡ commit_rank scenario schedule m g
    unfolding commit_rank
    commit_rank_is m g =
        ap (λ (rs : List ℕ). fold max 0 (rank_in scenario.time (rank_at schedule.order.commits m g) ∷ rs))
        (ap (map (rank_then other run m (settle other run m g))) (same_message m).destinations
        ∙ map_same (rank_then other run m (settle other run m g)) (rank_then scenario schedule m (settle scenario schedule m g)) (message_at scenario m).destinations (rank_then_is m g))

    same_moments : IsMoved (λ x. x.tick) (λ x. x.rank) other run scenario schedule
    same_moments = record {
      numbers = sym same_numbers;
      destinations = λ m. sym (same_message m).destinations;
      groups = refl;
      arrivals = λ m g goes. ap₂ (moment_at Arrival m g) (arrives m g) (arrival_rank_is m g);
      commits = λ m g goes. ap₂ (moment_at Commit m g) (settles m g) (commit_rank_is m g);
      before = λ x y i j. refl;
    }

    -- ---- its deliveries
    same_hold : (m g tick : ℕ) → IsSameHold other run scenario schedule m g tick tick
    same_hold m g tick = record {
      goes = sym (same_addressed_to g);
      come = λ n. ap (λ t. nat_le t tick) (arrives n g);
      local = λ n. same_local (λ x. x.tick) (λ x. x.rank) other run scenario schedule same_moments n g;
      final = same_final (λ x. x.tick) (λ x. x.rank) other run scenario schedule same_moments m;
      waits = λ n. ap (nat_lt tick) (settles n g);
    }

    free_too : (m g tick : ℕ) → is_free other run m g tick ≡ is_free scenario schedule m g tick
    free_too m g tick = free_same other run scenario schedule m g tick tick (same_hold m g tick)

    delivers : (m g : ℕ) → deliver other run m g ≡ deliver scenario schedule m g
    unfolding deliver
    delivers m g =
        let last : last_commit other run g (addressed_to other g) ≡ last_commit scenario schedule g (addressed_to scenario g) =
        ap (last_commit other run g) (same_addressed_to g)
        ∙ ap (fold max 0) (map_same (λ n. settle other run n g) (λ n. settle scenario schedule n g) (addressed_to scenario g) (λ n. settles n g)) in
        same_first (is_free other run m g) (is_free scenario schedule m g) (last_commit other run g (addressed_to other g) - settle other run m g) (settle other run m g) (free_too m g)
        ∙ ap₂ (first_tick (is_free scenario schedule m g)) (ap₂ ◌-◌ last (settles m g)) (settles m g)

    pub as_late : (m g : ℕ) → latency_at other run m g ≡ latency_at scenario schedule m g
    unfolding latency_at
    as_late m g = ap₂ ◌-◌ (delivers m g) (issues m)

    -- ---- it is an assignment
    module _ (given : IsAssignment scenario schedule) where
      delay_within : (p : Packet) → is_sent other p ≡ true → IsWithin (range_of other p) (delay_there p)
      delay_within (Wait m) sent =
          let first = (fits m).0 in
          let last = (fits m).1 in
          (omega arith, omega arith)
      delay_within (Multicast m g) sent =
          subst (λ sender. IsWithin (range_between scenario sender g) (delay_of scenario schedule (Multicast m g))) (sym (same_message m).sender)
          (used.within scenario schedule (Multicast m g) given (sym (same_multicast m g) ∙ sent))
      delay_within (Propose m h g) sent = used.within scenario schedule (Propose m h g) given (sym (same_propose m h g) ∙ sent)

      delays_within : AreWithin (ranges_of other) run.delays
      unfolding ranges_of
      delays_within = all_zip_made IsWithin (range_of other) delay_there (packets_of other) (λ p i. delay_within p (sent_of_in used.sent other p i))

      ranks_too : (ranks : List ℕ) → AreRanks scenario ranks → AreRanks other ranks
      ranks_too ranks are = record {
        long = are.long;
        small = are.small;
        nowhere = λ m g few below elsewhere. are.nowhere m g few below (sym (same_addressed m g) ∙ elsewhere);
      }

      pub is_assignment : IsAssignment other run
      is_assignment = record {
        delays = delays_within;
        order = record {
          arrivals = ranks_too schedule.order.arrivals given.order.arrivals;
          commits = ranks_too schedule.order.commits given.order.commits;
          fixed = given.order.fixed;
        };
      }

pub runs_fit : Used → RunsFitOtherWindows
runs_fit used scenario messages schedule alike given fits = (
  run scenario messages alike used schedule fits,
  is_assignment scenario messages alike used schedule fits given,
  as_late scenario messages alike used schedule fits,
)
