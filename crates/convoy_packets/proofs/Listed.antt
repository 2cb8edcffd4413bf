-- What holds of the packet list of a well-formed scenario.
use Rattle.std.proofs.Common.{◌≡◌, ℕ, ◌<◌, zero, suc, ◌≤◌, ◌==◌, ◌&&◌, ◌||◌, Bool, true, false, cond, not, List, [], ◌∷◌, ◌++◌, length, get_or, Some, arith, refl, sym, ap, ◌∙◌}
use Rattle.std.specs.List.{All, AllPairs, filter, find, flat_map, enumerate_from, list_any}
use Rattle.std.specs.Option.{option_map_or}
use Rattle.std.proofs.lemmas.Bool.{eq-eqb, true≢false}
use Rattle.std.proofs.lemmas.Bool.Decides.{nat_tests}
use Rattle.std.proofs.lemmas.List.{length-map, length-append}
use Rattle.std.proofs.lemmas.List.Concat.{length-flat_map}
use Rattle.std.proofs.lemmas.List.Elements.{All-nil, All-cons, All-append, All-filter, All-map}
use Rattle.std.proofs.lemmas.List.Filters.{length-filter_both}
use Rattle.std.proofs.lemmas.List.FromFn.{length-enumerate_from}
use Rattle.std.proofs.lemmas.List.Kept.{AllPairs-cons, AllPairs-filter, AllPairs-from_increasing}
use Rattle.std.proofs.lemmas.List.Sums.{length-filter, count_by-le-length, get_or-le-sum_by, sum_by-le}
use Rattle.convoy_scenario.specs.declared.sender.Sender.TheVariants.{Group}
use Rattle.convoy_scenario.specs.Scenario.{Link, Message, Scenario, has_own_stamps, is_same_sender, may_wait, stamp_takes_time, takes_time}
use Rattle.convoy_scenario.specs.WellFormed.{IsMulticast, IsScenario}
use Rattle.convoy_packets.specs.declared.packet.Packet.{Packet}
use Rattle.convoy_packets.specs.declared.packet.Packet.TheVariants.{Wait, Multicast, Propose}
use Rattle.convoy_packets.specs.Packets.{wait_packets, multicast_packets, propose_packets, message_packets, packets_of, is_wait}
use Rattle.convoy_packets.specs.Slots.{is_within_limits, HaveSlots}
use Rattle.convoy_packets.proofs.Lists.{All-flat_map, All-numbered, length-increasing-le}
use Rattle.convoy_packets.proofs.Pairs.{AllPairs-nil, AllPairs-append, AllPairs-map, AllPairs-weaker, AllPairs-flat_map, numbers_rise}

wait_within : (m : ℕ) → m < 16 → is_within_limits (Wait m) ≡ true
wait_within m a = grind (arith, nat_tests)

multicast_within : (m g : ℕ) → m < 16 → g < 8 → is_within_limits (Multicast m g) ≡ true
multicast_within m g a b = grind (arith, nat_tests)

pub or_none : (a b : Bool) → (a || b) ≡ false → (a ≡ false) × (b ≡ false)
or_none false b e = (refl, e)
or_none true b e = absurd (true≢false e)

propose_within : (m h g : ℕ) → m < 16 → h < 8 → g < 8 → is_within_limits (Propose m h g) ≡ true
propose_within m h g a b c = grind (arith, nat_tests)

-- where a test passes no element it passes none at a place
pub none_at : {X : Type 0} (p : X → Bool) (xs : List X) (k : ℕ) (d : X) → list_any p xs ≡ false → k < length xs → p (get_or xs k d) ≡ false
none_at p [] k d none l = absurd (omega arith)
none_at p (x ∷ xs) zero d none l = (or_none (p x) (list_any p xs) none).0
none_at p (x ∷ xs) (suc k) d none l = none_at p xs k d (or_none (p x) (list_any p xs) none).1 (omega arith)

-- the message of a packet, and the group that a local stamp comes from
abbrev pub message_of : Packet → ℕ
message_of (Wait m) = m
message_of (Multicast m g) = m
message_of (Propose m h g) = m

abbrev sender_of : Packet → ℕ
sender_of (Wait m) = 0
sender_of (Multicast m g) = g
sender_of (Propose m h g) = h

abbrev pub is_multicast : Packet → Bool
is_multicast (Wait m) = false
is_multicast (Multicast m g) = true
is_multicast (Propose m h g) = false

-- a link that is found among some of which none is for stamps is not for them, either
none_found : (p : Link → Bool) (links : List Link) → list_any (λ link. link.stamps) links ≡ false → option_map_or (λ (link : Link). link.stamps) (find p links) false ≡ false
none_found p [] own = refl
none_found p (link ∷ links) own =
    let none = or_none link.stamps (list_any (λ other. other.stamps) links) own in
    by_test (p link) none.0 (none_found p links none.1) where
      by_test : (b : Bool) → link.stamps ≡ false → option_map_or (λ (l : Link). l.stamps) (find p links) false ≡ false
          → option_map_or (λ (l : Link). l.stamps) (cond b (Some link) (find p links)) false ≡ false
      by_test true here rest = here
      by_test false here rest = rest

-- where no own stamps take time, only the stamp to another group does
takes_none : (plan : Scenario) (h g : ℕ) → has_own_stamps plan ≡ false → stamp_takes_time plan h g ≡ not (h == g)
takes_none plan h g own = rw (none_found (λ link. is_same_sender (Group h) link.sender && (g == link.to)) plan.links own) (or_false (not (h == g))) where
  or_false : (a : Bool) → (a || false) ≡ a
  or_false true = refl
  or_false false = refl

-- the wait of a message, if there is one
pub each_wait : (P : Packet → Type 0) (m : ℕ) (message : Message) → P (Wait m) → All P (wait_packets m message)
each_wait P m message h =
    elim (may_wait message) as (λ b. All P (cond b (Wait m ∷ []) [])) [
      | true ↦ All-cons P (Wait m) [] h (All-nil P)
      | false ↦ All-nil P
    ]

module _ (plan : Scenario) (m : ℕ) (message : Message) where
  pub are_waits : All (λ p. is_wait p ≡ true) (wait_packets m message)
  are_waits = each_wait (λ p. is_wait p ≡ true) m message refl

  pub are_sent_off : All (λ p. is_wait p ≡ false) (multicast_packets plan m message ++ flat_map (propose_packets plan m message) message.destinations)
  are_sent_off =
      All-append (λ p. is_wait p ≡ false) (multicast_packets plan m message) (flat_map (propose_packets plan m message) message.destinations)
      (All-map (λ p. is_wait p ≡ false) (λ g. Multicast m g) (filter (takes_time plan message.sender) message.destinations)
      (λ k d l. refl))
      (All-flat_map (λ p. is_wait p ≡ false) (propose_packets plan m message) message.destinations
      (λ k d l. All-map (λ p. is_wait p ≡ false) (λ g. Propose m (get_or message.destinations k d) g)
      (filter (stamp_takes_time plan (get_or message.destinations k d)) message.destinations) (λ i e h. refl)))

  pub are_multicasts : All (λ p. is_multicast p ≡ true) (multicast_packets plan m message)
  are_multicasts =
      All-map (λ p. is_multicast p ≡ true) (λ g. Multicast m g) (filter (takes_time plan message.sender) message.destinations)
      (λ k d l. refl)

  pub are_stamps : All (λ p. is_multicast p ≡ false) (flat_map (propose_packets plan m message) message.destinations)
  are_stamps =
      All-flat_map (λ p. is_multicast p ≡ false) (propose_packets plan m message) message.destinations
      (λ k d l. All-map (λ p. is_multicast p ≡ false) (λ g. Propose m (get_or message.destinations k d) g)
      (filter (stamp_takes_time plan (get_or message.destinations k d)) message.destinations) (λ i e h. refl))

  of_message : All (λ p. message_of p ≡ m) (message_packets plan m message)
  of_message =
      All-append (λ p. message_of p ≡ m) (wait_packets m message) (multicast_packets plan m message ++ flat_map (propose_packets plan m message) message.destinations)
      (each_wait (λ p. message_of p ≡ m) m message refl)
      (All-append (λ p. message_of p ≡ m) (multicast_packets plan m message) (flat_map (propose_packets plan m message) message.destinations)
      (All-map (λ p. message_of p ≡ m) (λ g. Multicast m g) (filter (takes_time plan message.sender) message.destinations)
      (λ k d l. refl))
      (All-flat_map (λ p. message_of p ≡ m) (propose_packets plan m message) message.destinations
      (λ k d l. All-map (λ p. message_of p ≡ m) (λ g. Propose m (get_or message.destinations k d) g)
      (filter (stamp_takes_time plan (get_or message.destinations k d)) message.destinations) (λ i e h. refl))))

module _ (plan : Scenario) (m : ℕ) (message : Message) (groups places : ℕ) (few : groups ≤ 8) (is : IsMulticast groups places message) where
  multicasts_within : m < 16 → HaveSlots (multicast_packets plan m message)
  multicasts_within low =
      All-map (λ p. is_within_limits p ≡ true) (λ g. Multicast m g) (filter (takes_time plan message.sender) message.destinations)
      (All-filter (takes_time plan message.sender) (λ g. is_within_limits (Multicast m g) ≡ true) message.destinations
      (λ k d l. let known = is.known k d l in multicast_within m (get_or message.destinations k d) low (omega arith)))

  proposals_within : m < 16 → (h : ℕ) → h < 8 → HaveSlots (propose_packets plan m message h)
  proposals_within low h at =
      All-map (λ p. is_within_limits p ≡ true) (λ g. Propose m h g) (filter (stamp_takes_time plan h) message.destinations)
      (All-filter (stamp_takes_time plan h) (λ g. is_within_limits (Propose m h g) ≡ true) message.destinations
      (λ k d l. let known = is.known k d l in propose_within m h (get_or message.destinations k d) low at (omega arith)))

  message_within : m < 16 → HaveSlots (message_packets plan m message)
  message_within low =
      All-append (λ p. is_within_limits p ≡ true) (wait_packets m message) (multicast_packets plan m message ++ flat_map (propose_packets plan m message) message.destinations)
      (each_wait (λ p. is_within_limits p ≡ true) m message (wait_within m low))
      (All-append (λ p. is_within_limits p ≡ true) (multicast_packets plan m message) (flat_map (propose_packets plan m message) message.destinations)
      (multicasts_within low)
      (All-flat_map (λ p. is_within_limits p ≡ true) (propose_packets plan m message) message.destinations
      (λ k d l. let known = is.known k d l in proposals_within low (get_or message.destinations k d) (omega arith))))

  length-destinations : length message.destinations ≤ 8
  length-destinations = let most = length-increasing-le message.destinations groups is.ascending is.known in omega arith

  length-multicasts : length (multicast_packets plan m message) ≤ length message.destinations
  length-multicasts =
      let p = takes_time plan message.sender in
      rw (length-map, length-filter) (count_by-le-length p message.destinations)

  length-proposals : (k d : ℕ) → k < length message.destinations → length (propose_packets plan m message (get_or message.destinations k d)) ≤ 8
  length-proposals k d l =
      let most = length-destinations in
      let sent = count_by-le-length (stamp_takes_time plan (get_or message.destinations k d)) message.destinations in
      rw (length-map, length-filter) (omega arith)

  -- where no own stamps take time, a destination sends no stamp to itself
  length-others : has_own_stamps plan ≡ false → (k d : ℕ) → k < length message.destinations → length (propose_packets plan m message (get_or message.destinations k d)) ≤ 7
  length-others own k d l =
      let h = get_or message.destinations k d in
      let gs = message.destinations in
      let same = λ (g : ℕ). h == g in
      let both = length-filter_both same (stamp_takes_time plan h) (λ g. takes_none plan h g own) gs in
      let one = get_or-le-sum_by (λ g. cond (h == g) 1 0) gs k d l in
      let itself = rw (eq-eqb h h refl) at one in
      let count = length-filter same gs in
      let most = length-destinations in
      rw length-map (omega arith)

  length-waits : length (wait_packets m message) ≤ 1
  length-waits = elim (may_wait message) as (λ b. length (cond b (Wait m ∷ []) []) ≤ 1) [ true ↦ omega arith | false ↦ omega arith ]

  length-travelling : length (multicast_packets plan m message ++ flat_map (propose_packets plan m message) message.destinations) ≤ 72
  length-travelling =
      let gs = message.destinations in
      let all = sum_by-le (λ h. length (propose_packets plan m message h)) 8 gs length-proposals in
      let first = length-multicasts in
      let most = length-destinations in
      rw (length-append, length-flat_map) (omega arith)

  length-message : length (message_packets plan m message) ≤ 73
  length-message = let first = length-waits in let rest = length-travelling in rw length-append (omega arith)

  length-unwaiting : has_own_stamps plan ≡ false → may_wait message ≡ false → length (message_packets plan m message) ≤ 64
  length-unwaiting own none =
      let gs = message.destinations in
      let all = sum_by-le (λ h. length (propose_packets plan m message h)) 7 gs (length-others own) in
      let first = length-multicasts in
      let most = length-destinations in
      let travelling : length (multicast_packets plan m message ++ flat_map (propose_packets plan m message) message.destinations) ≤ 64 =
      rw (length-append, length-flat_map) (omega arith) in
      rw none travelling

  destinations_differ : AllPairs (λ g h. g ≡ h → ⊥) message.destinations
  destinations_differ =
      AllPairs-weaker (λ g h. g < h) (λ g h. g ≡ h → ⊥) message.destinations (λ g h l e. omega arith)
      (AllPairs-from_increasing message.destinations is.ascending)

  multicasts_differ : AllPairs (λ p q. p ≡ q → ⊥) (multicast_packets plan m message)
  multicasts_differ =
      AllPairs-map (λ p q. p ≡ q → ⊥) (λ g. Multicast m g) (filter (takes_time plan message.sender) message.destinations)
      (AllPairs-filter (λ g h. Multicast m g ≡ Multicast m h → ⊥) (takes_time plan message.sender) message.destinations
      (AllPairs-weaker (λ g h. g ≡ h → ⊥) (λ g h. Multicast m g ≡ Multicast m h → ⊥) message.destinations
      (λ g h ne e. ne cc) destinations_differ))

  proposals_differ : (from : ℕ) → AllPairs (λ p q. p ≡ q → ⊥) (propose_packets plan m message from)
  proposals_differ from =
      AllPairs-map (λ p q. p ≡ q → ⊥) (λ g. Propose m from g) (filter (stamp_takes_time plan from) message.destinations)
      (AllPairs-filter (λ g h. Propose m from g ≡ Propose m from h → ⊥) (stamp_takes_time plan from) message.destinations
      (AllPairs-weaker (λ g h. g ≡ h → ⊥) (λ g h. Propose m from g ≡ Propose m from h → ⊥) message.destinations
      (λ g h ne e. ne cc) destinations_differ))

  waits_differ : AllPairs (λ p q. p ≡ q → ⊥) (wait_packets m message)
  waits_differ =
      elim (may_wait message) as (λ b. AllPairs (λ p q. p ≡ q → ⊥) (cond b (Wait m ∷ []) [])) [
        | true ↦ AllPairs-cons (λ p q. p ≡ q → ⊥) (Wait m) [] (All-nil (λ q. Wait m ≡ q → ⊥)) (AllPairs-nil (λ p q. p ≡ q → ⊥))
        | false ↦ AllPairs-nil (λ p q. p ≡ q → ⊥)
      ]

  travelling_differ : AllPairs (λ p q. p ≡ q → ⊥) (multicast_packets plan m message ++ flat_map (propose_packets plan m message) message.destinations)
  travelling_differ =
      AllPairs-append (λ p q. p ≡ q → ⊥) (multicast_packets plan m message) (flat_map (propose_packets plan m message) message.destinations)
      multicasts_differ
      (AllPairs-flat_map (λ h. h) sender_of (propose_packets plan m message) message.destinations
      (λ h. All-map (λ p. sender_of p ≡ h) (λ g. Propose m h g) (filter (stamp_takes_time plan h) message.destinations) (λ k d l. refl))
      (λ k d l. proposals_differ (get_or message.destinations k d))
      destinations_differ)
      (λ k d l i e h same. true≢false (sym (are_multicasts plan m message k d l) ∙ ap is_multicast same ∙ are_stamps plan m message i e h))

  message_differs : AllPairs (λ p q. p ≡ q → ⊥) (message_packets plan m message)
  message_differs =
      AllPairs-append (λ p q. p ≡ q → ⊥) (wait_packets m message) (multicast_packets plan m message ++ flat_map (propose_packets plan m message) message.destinations)
      waits_differ travelling_differ
      (λ k d l i e h same. true≢false (sym (are_waits plan m message k d l) ∙ ap is_wait same ∙ are_sent_off plan m message i e h))

-- where no message waits, all packets travel
pub all_travel : (plan : Scenario) → list_any may_wait plan.multicasts ≡ false → All (λ p. is_wait p ≡ false) (packets_of plan)
unfolding packets_of
all_travel plan none =
    All-flat_map (λ p. is_wait p ≡ false) (λ p. message_packets plan p.0 p.1) (enumerate_from 0 plan.multicasts)
    (All-numbered (λ p. All (λ q. is_wait q ≡ false) (message_packets plan p.0 p.1)) plan.multicasts
    (λ k d l. let unwaiting = none_at may_wait plan.multicasts k d none l in rw unwaiting (are_sent_off plan k (get_or plan.multicasts k d))))

module _ (plan : Scenario) (is : IsScenario plan) where
  pub packets_within : HaveSlots (packets_of plan)
  unfolding packets_of
  packets_within =
      All-flat_map (λ p. is_within_limits p ≡ true) (λ p. message_packets plan p.0 p.1) (enumerate_from 0 plan.multicasts)
      (All-numbered (λ p. HaveSlots (message_packets plan p.0 p.1)) plan.multicasts
      (λ k d l. let low = is.multicasts_high in
      message_within plan k (get_or plan.multicasts k d) (length plan.groups) (length plan.places) is.groups_high (is.messages k d l) (omega arith)))

  pub length-packets_of-le : length (packets_of plan) ≤ 1168
  unfolding packets_of
  length-packets_of-le =
      let each = sum_by-le (λ p. length (message_packets plan p.0 p.1)) 73 (enumerate_from 0 plan.multicasts)
      (All-numbered (λ p. length (message_packets plan p.0 p.1) ≤ 73) plan.multicasts
      (λ k d l. length-message plan k (get_or plan.multicasts k d) (length plan.groups) (length plan.places) is.groups_high (is.messages k d l))) in
      let few = is.multicasts_high in
      let long = length-enumerate_from 0 plan.multicasts in
      rw length-flat_map (omega arith)

  -- where no message waits, and no own stamps take time
  pub length-packets_of-unwaiting : list_any may_wait plan.multicasts ≡ false → has_own_stamps plan ≡ false → length (packets_of plan) ≤ 1024
  unfolding packets_of
  length-packets_of-unwaiting none own =
      let each = sum_by-le (λ p. length (message_packets plan p.0 p.1)) 64 (enumerate_from 0 plan.multicasts)
      (All-numbered (λ p. length (message_packets plan p.0 p.1) ≤ 64) plan.multicasts
      (λ k d l. length-unwaiting plan k (get_or plan.multicasts k d) (length plan.groups) (length plan.places) is.groups_high (is.messages k d l) own (none_at may_wait plan.multicasts k d none l))) in
      let few = is.multicasts_high in
      let long = length-enumerate_from 0 plan.multicasts in
      rw length-flat_map (omega arith)

  pub packets_differ : AllPairs (λ p q. p ≡ q → ⊥) (packets_of plan)
  unfolding packets_of
  packets_differ =
      AllPairs-flat_map (λ p. p.0) message_of (λ p. message_packets plan p.0 p.1) (enumerate_from 0 plan.multicasts)
      (λ p. of_message plan p.0 p.1)
      (All-numbered (λ p. AllPairs (λ a b. a ≡ b → ⊥) (message_packets plan p.0 p.1)) plan.multicasts
      (λ k d l. message_differs plan k (get_or plan.multicasts k d) (length plan.groups) (length plan.places) is.groups_high (is.messages k d l)))
      (AllPairs-weaker (λ p q. p.0 < q.0) (λ p q. p.0 ≡ q.0 → ⊥) (enumerate_from 0 plan.multicasts) (λ p q l e. omega arith)
      (numbers_rise 0 plan.multicasts))
