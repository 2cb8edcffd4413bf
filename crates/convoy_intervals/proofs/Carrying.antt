-- A packet's range is read by nothing but its own message's arrival and settling.
use Rattle.std.specs.Prelude.{◌≡◌, ◌≢◌, ℕ, ◌+◌, List, [], ◌∷◌, map, Option, Some, None, IsFalse}
use Rattle.std.specs.List.{slice_get}
use Rattle.std.specs.Option.{option_map_or}
use Rattle.std.proofs.Common.{refl, sym, ap, ap₂, ◌∙◌, arith, get_or, set}
use Rattle.std.proofs.lemmas.List.{map-set, get_or-set_other}
use Rattle.std.proofs.lemmas.Bool.Decides.{nat_tests}
use Rattle.convoy_scenario.specs.Scenario.{Scenario, message_at}
use Rattle.convoy_packets.specs.declared.packet.Packet.{Packet}
use Rattle.convoy_packets.specs.declared.packet.Packet.TheVariants.{Wait, Multicast, Propose}
use Rattle.convoy_packets.specs.Packets.{packets_of, place_of}
use Rattle.convoy_packets.specs.Assignment.{delay_of, in_fixed_order}
use Rattle.convoy_packets.specs.ScheduleLaws.{PlacesLeadBack}
use Rattle.convoy_sim.specs.Times.{greatest, arrive, propose_arrive, settle}
use Rattle.convoy_intervals.specs.Spans.{moves_arrival, moves_settling, arrival_span, settling_span}

-- two functions that agree everywhere
map-same : (f g : ℕ → ℕ) → ((x : ℕ) → f x ≡ g x) → (xs : List ℕ) → map f xs ≡ map g xs
map-same f g each [] = refl
map-same f g each (x ∷ xs) = ap₂ (λ y (ys : List ℕ). y ∷ ys) (each x) (map-same f g each xs)

-- two packets of one kind that are one
wait-message : (m n : ℕ) → Some (Wait m) ≡ Some (Wait n) → m ≡ n
wait-message m n e = cc

multicast-message : (m g n h : ℕ) → Some (Multicast m g) ≡ Some (Multicast n h) → m ≡ n
multicast-message m g n h e = cc

multicast-group : (m g n h : ℕ) → Some (Multicast m g) ≡ Some (Multicast n h) → g ≡ h
multicast-group m g n h e = cc

propose-message : (m h g n i k : ℕ) → Some (Propose m h g) ≡ Some (Propose n i k) → m ≡ n
propose-message m h g n i k e = cc

propose-to : (m h g n i k : ℕ) → Some (Propose m h g) ≡ Some (Propose n i k) → g ≡ k
propose-to m h g n i k e = cc

-- a packet that moves neither is another than those that are read
arrival_reads_other : (packet : Packet) (m g : ℕ) → IsFalse (moves_arrival packet m g) → Some (Multicast m g) ≢ Some packet
arrival_reads_other (Wait n) m g still e = cc
arrival_reads_other (Multicast n h) m g still e =
    let message = multicast-message m g n h e in
    let group = multicast-group m g n h e in
    grind (arith, nat_tests, message, group, still)
arrival_reads_other (Propose n h k) m g still e = cc

arrival_reads_wait : (packet : Packet) (m g : ℕ) → IsFalse (moves_arrival packet m g) → Some (Wait m) ≢ Some packet
arrival_reads_wait (Wait n) m g still e =
    let message = wait-message m n e in
    grind (arith, nat_tests, message, still)
arrival_reads_wait (Multicast n h) m g still e = cc
arrival_reads_wait (Propose n h k) m g still e = cc

settling_reads_wait : (packet : Packet) (m g : ℕ) → IsFalse (moves_settling packet m g) → Some (Wait m) ≢ Some packet
settling_reads_wait (Wait n) m g still e =
    let message = wait-message m n e in
    grind (arith, nat_tests, message, still)
settling_reads_wait (Multicast n k) m g still e = cc
settling_reads_wait (Propose n i k) m g still e = cc

settling_reads_arrival : (packet : Packet) (m g h : ℕ) → IsFalse (moves_settling packet m g) → Some (Multicast m h) ≢ Some packet
settling_reads_arrival (Wait n) m g h still e = cc
settling_reads_arrival (Multicast n k) m g h still e =
    let message = multicast-message m h n k e in
    grind (arith, nat_tests, message, still)
settling_reads_arrival (Propose n i k) m g h still e = cc

settling_reads_proposal : (packet : Packet) (m g h : ℕ) → IsFalse (moves_settling packet m g) → Some (Propose m h g) ≢ Some packet
settling_reads_proposal (Wait n) m g h still e = cc
settling_reads_proposal (Multicast n k) m g h still e = cc
settling_reads_proposal (Propose n i k) m g h still e =
    let message = propose-message m h g n i k e in
    let group = propose-to m h g n i k e in
    grind (arith, nat_tests, message, group, still)

module _ (plan : Scenario) (ranges : List (ℕ × ℕ)) (i : ℕ) (range : ℕ × ℕ) (packet : Packet) (back : PlacesLeadBack) (stands : slice_get (packets_of plan) i ≡ Some packet) where
  module _ (end : ℕ × ℕ → ℕ) where
    -- another packet keeps its delay
    delay_kept : (other : Packet) → Some other ≢ Some packet → delay_of plan (in_fixed_order (map end (set ranges i range))) other ≡ delay_of plan (in_fixed_order (map end ranges)) other
    unfolding delay_of
    delay_kept other differs = at_place (place_of other (packets_of plan)) refl where
      at_place : (place : Option ℕ) → place_of other (packets_of plan) ≡ place → option_map_or (λ j. get_or (map end (set ranges i range)) j 0) place 0 ≡ option_map_or (λ j. get_or (map end ranges) j 0) place 0
      at_place None found = refl
      at_place (Some j) found =
          let elsewhere : j ≢ i = λ e. differs (sym (back plan j other found) ∙ ap (λ n. slice_get (packets_of plan) n) e ∙ stands) in
          ap (λ ds. get_or ds j 0) (map-set end ranges i range) ∙ get_or-set_other (map end ranges) i j (end range) 0 elsewhere

    arrive_kept : (m g : ℕ) → Some (Wait m) ≢ Some packet → Some (Multicast m g) ≢ Some packet → arrive plan (in_fixed_order (map end (set ranges i range))) m g ≡ arrive plan (in_fixed_order (map end ranges)) m g
    unfolding arrive
    arrive_kept m g waits differs =
        ap₂ (λ w d. (message_at plan m).at + w + d) (delay_kept (Wait m) waits) (delay_kept (Multicast m g) differs)

    propose_kept : (m g h : ℕ) → IsFalse (moves_settling packet m g) → propose_arrive plan (in_fixed_order (map end (set ranges i range))) m g h ≡ propose_arrive plan (in_fixed_order (map end ranges)) m g h
    propose_kept m g h still =
        ap₂ (λ a d. a + d) (arrive_kept m h (settling_reads_wait packet m g still) (settling_reads_arrival packet m g h still)) (delay_kept (Propose m h g) (settling_reads_proposal packet m g h still))

    settle_kept : (m g : ℕ) → IsFalse (moves_settling packet m g) → settle plan (in_fixed_order (map end (set ranges i range))) m g ≡ settle plan (in_fixed_order (map end ranges)) m g
    unfolding settle
    settle_kept m g still =
        ap greatest (map-same (propose_arrive plan (in_fixed_order (map end (set ranges i range))) m g) (propose_arrive plan (in_fixed_order (map end ranges)) m g) (λ h. propose_kept m g h still) (message_at plan m).destinations)

  -- so the spans keep all else
  pub carried : (m g : ℕ) → (IsFalse (moves_arrival packet m g) → arrival_span plan (set ranges i range) m g ≡ arrival_span plan ranges m g) × (IsFalse (moves_settling packet m g) → settling_span plan (set ranges i range) m g ≡ settling_span plan ranges m g)
  carried m g = (
    λ still.
        let waits = arrival_reads_wait packet m g still in
        let differs = arrival_reads_other packet m g still in
        ap₂ (λ (a b : ℕ). (a, b)) (arrive_kept (λ r. r.0) m g waits differs) (arrive_kept (λ r. r.1) m g waits differs),
    λ still. ap₂ (λ (a b : ℕ). (a, b)) (settle_kept (λ r. r.0) m g still) (settle_kept (λ r. r.1) m g still),
  )
