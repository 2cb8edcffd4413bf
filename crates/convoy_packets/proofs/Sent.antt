-- The list has just the packets that are sent: a look-up's test, carried through the list's definition.
use Rattle.std.proofs.Common.{◌≡◌, ℕ, zero, suc, ◌+◌, ◌<◌, ◌==◌, Bool, true, false, cond, ◌&&◌, ◌||◌, not, List, [], ◌∷◌, ◌++◌, length, map, get_or, refl, sym, ap, ◌∙◌, arith, inl, inr, ◌⊎◌, zero-add, position, ltb, Some, None}
use Rattle.std.specs.List.{filter, flat_map, enumerate_from, list_any, position_or_len}
use Rattle.std.specs.Option.{is_some}
use Rattle.std.proofs.lemmas.Bool.{cases_eq, ne_eqb, eq-eqb, and_right, lt-ltb, true≢false, false≢true}
use Rattle.std.proofs.lemmas.Bool.Decides.{nat_tests}
use Rattle.std.proofs.lemmas.List.Folds.{list_any-append, list_any_none}
use Rattle.convoy_scenario.specs.Scenario.{Message, Scenario, message_at, may_wait, no_message, stamp_takes_time, takes_time, is_addressed}
use Rattle.convoy_packets.specs.declared.packet.Packet.{Packet}
use Rattle.convoy_packets.specs.declared.packet.Packet.TheVariants.{Wait, Multicast, Propose}
use Rattle.convoy_packets.specs.Packets.{wait_packets, multicast_packets, propose_packets, message_packets, packets_of, is_packet, is_wait, place_of}
use Rattle.convoy_packets.specs.ScheduleLaws.{is_sent}
use Rattle.convoy_packets.proofs.Listed.{are_multicasts, are_stamps, are_sent_off, are_waits, is_multicast, message_of}

-- what one group proposes takes time on its way to another
pub other_stamp_takes : (plan : Scenario) (h g : ℕ) → (h == g) ≡ false → stamp_takes_time plan h g ≡ true
other_stamp_takes plan h g away = rw away refl

list_any-flat_map : {X A : Type 0} (p : A → Bool) (f : X → List A) (xs : List X) → list_any p (flat_map f xs) ≡ list_any (λ x. list_any p (f x)) xs
list_any-flat_map p f [] = refl
list_any-flat_map p f (x ∷ xs) = list_any-append p (f x) (flat_map f xs) ∙ ap (λ b. list_any p (f x) || b) (list_any-flat_map p f xs)

any_mapped : {X A : Type 0} (t : A → Bool) (f : X → A) (p : X → Bool) (xs : List X) → list_any t (map f (filter p xs)) ≡ list_any (λ x. p x && t (f x)) xs
any_mapped t f p [] = refl
any_mapped t f p (x ∷ xs) = by_test (p x) (any_mapped t f p xs) where
  by_test : (b : Bool) → list_any t (map f (filter p xs)) ≡ list_any (λ y. p y && t (f y)) xs → list_any t (map f (cond b (x ∷ filter p xs) (filter p xs))) ≡ ((b && t (f x)) || list_any (λ y. p y && t (f y)) xs)
  by_test true e = ap (λ b. t (f x) || b) e
  by_test false e = e

-- a test that only the number g can pass, where it says c
any_one : (F : ℕ → Bool) (c : Bool) (g : ℕ) (xs : List ℕ) → ((k : ℕ) → F k ≡ (c && (k == g))) → list_any F xs ≡ (c && list_any (λ k. k == g) xs)
any_one F true g [] h = refl
any_one F false g [] h = refl
any_one F true g (x ∷ xs) h = rw (h x, any_one F true g xs h) refl
any_one F false g (x ∷ xs) h = rw (h x, any_one F false g xs h) refl

to_one : (t : ℕ → Bool) (g k : ℕ) → (t k && (g == k)) ≡ (t g && (k == g))
to_one t g k = by_cases (cases_eq k g) where
  by_cases : (k ≡ g) ⊎ (k ≡ g → ⊥) → (t k && (g == k)) ≡ (t g && (k == g))
  by_cases (inl e) = rw e refl
  by_cases (inr ne) =
      and_right (t k) (g == k) (ne_eqb g k (λ e. ne (sym e))) ∙ sym (and_right (t g) (k == g) (ne_eqb k g ne))

or_false : (a : Bool) → (a || false) ≡ a
or_false true = refl
or_false false = refl

and_true : (a : Bool) → a ≡ (a && true)
and_true true = refl
and_true false = refl

and_none : (a : Bool) → false ≡ (a && false)
and_none true = refl
and_none false = refl

and_assoc : (a b c : Bool) → (a && (b && c)) ≡ ((a && b) && c)
and_assoc true b c = refl
and_assoc false b c = refl

-- the numbers from n on, with an element each: a test that only the number m can pass
none_below : {X : Type 0} (F : ℕ × X → Bool) (S : X → Bool) (m n : ℕ) (xs : List X) → ((p : ℕ × X) → F p ≡ ((m == p.0) && S p.1)) → m < n → list_any F (enumerate_from n xs) ≡ false
none_below F S m n [] h l = refl
none_below F S m n (x ∷ xs) h l =
    rw (h (n, x), ne_eqb m n (λ e. omega arith), none_below F S m (n + 1) xs h (omega arith)) refl

any_numbered : {X : Type 0} (F : ℕ × X → Bool) (S : X → Bool) (m n k : ℕ) (xs : List X) (d : X) → ((p : ℕ × X) → F p ≡ ((m == p.0) && S p.1)) → S d ≡ false → m ≡ n + k → list_any F (enumerate_from n xs) ≡ S (get_or xs k d)
any_numbered F S m n k [] d h none e = sym none
any_numbered F S m n zero (x ∷ xs) d h none e =
    rw (h (n, x), eq-eqb m n (omega arith), none_below F S m (n + 1) xs h (omega arith)) (or_false (S x))
any_numbered F S m n (suc k) (x ∷ xs) d h none e =
    rw (h (n, x), ne_eqb m n (λ same. omega arith)) (any_numbered F S m (n + 1) k xs d h none (omega arith))

-- the message sends the packet, whatever its own number
abbrev sends : Scenario → Message → Packet → Bool
sends plan message (Wait m) = may_wait message
sends plan message (Multicast m g) = is_addressed message g && takes_time plan message.sender g
sends plan message (Propose m h g) = is_addressed message h && is_addressed message g && stamp_takes_time plan h g

unaddressed : (plan : Scenario) (p : Packet) → sends plan no_message p ≡ false
unaddressed plan (Wait m) = refl
unaddressed plan (Multicast m g) = refl
unaddressed plan (Propose m h g) = refl

turned : (s e a : Bool) → ((s && e) && a) ≡ (e && (a && s))
turned s e a = grind arith

grouped : (s e k a : Bool) → ((s && (e && k)) && a) ≡ (((e && a) && s) && k)
grouped s e k a = grind arith

regrouped : (e a s b : Bool) → (((e && a) && s) && b) ≡ (e && ((b && a) && s))
regrouped e a s b = grind arith

not_stamp : (m g : ℕ) (p : Packet) → is_multicast p ≡ false → is_packet (Multicast m g) p ≡ false
not_stamp m g (Wait n) e = refl
not_stamp m g (Multicast n k) e = absurd (true≢false e)
not_stamp m g (Propose n i k) e = refl

not_multicast : (m h g : ℕ) (p : Packet) → is_multicast p ≡ true → is_packet (Propose m h g) p ≡ false
not_multicast m h g (Wait n) e = refl
not_multicast m h g (Multicast n k) e = refl
not_multicast m h g (Propose n i k) e = absurd (false≢true e)

not_wait : (m : ℕ) (p : Packet) → is_wait p ≡ false → is_packet (Wait m) p ≡ false
not_wait m (Wait n) e = absurd (true≢false e)
not_wait m (Multicast n k) e = refl
not_wait m (Propose n i k) e = refl

no_packet : (q p : Packet) → is_wait q ≡ false → is_wait p ≡ true → is_packet q p ≡ false
no_packet (Wait m) p e f = absurd (true≢false e)
no_packet (Multicast m g) (Wait n) e f = refl
no_packet (Propose m h g) (Wait n) e f = refl
no_packet q (Multicast n k) e f = absurd (false≢true f)
no_packet q (Propose n i k) e f = absurd (false≢true f)

module _ (plan : Scenario) (n : ℕ) (message : Message) where
  travelling : List Packet
  travelling = multicast_packets plan n message ++ flat_map (propose_packets plan n message) message.destinations

  -- what travels is not found among the waits
  past_waits : (q : Packet) → is_wait q ≡ false → list_any (is_packet q) (message_packets plan n message) ≡ list_any (is_packet q) travelling
  unfolding travelling
  past_waits q other =
      list_any-append (is_packet q) (wait_packets n message) travelling
      ∙ ap (λ b. b || list_any (is_packet q) travelling)
      (list_any_none (is_packet q) (wait_packets n message) (λ k d l. no_packet q (get_or (wait_packets n message) k d) other (are_waits plan n message k d l)))

  wait_found : (m : ℕ) → list_any (is_packet (Wait m)) (message_packets plan n message) ≡ ((m == n) && sends plan message (Wait m))
  unfolding travelling
  wait_found m =
      list_any-append (is_packet (Wait m)) (wait_packets n message) travelling
      ∙ ap (λ b. list_any (is_packet (Wait m)) (wait_packets n message) || b)
      (list_any_none (is_packet (Wait m)) travelling (λ k d l. not_wait m (get_or travelling k d) (are_sent_off plan n message k d l)))
      ∙ or_false (list_any (is_packet (Wait m)) (wait_packets n message))
      ∙ by_wait (may_wait message) where
        by_wait : (b : Bool) → list_any (is_packet (Wait m)) (cond b (Wait n ∷ []) []) ≡ ((m == n) && b)
        by_wait true = or_false (m == n) ∙ and_true (m == n)
        by_wait false = and_none (m == n)

  multicast_found : (m g : ℕ) → list_any (is_packet (Multicast m g)) (message_packets plan n message) ≡ ((m == n) && sends plan message (Multicast m g))
  unfolding travelling
  multicast_found m g =
      let sent = takes_time plan message.sender in
      let gs = message.destinations in
      let q = Multicast m g in
      past_waits q refl
      ∙ list_any-append (is_packet q) (multicast_packets plan n message) (flat_map (propose_packets plan n message) gs)
      ∙ ap (λ b. list_any (is_packet q) (multicast_packets plan n message) || b)
      (list_any_none (is_packet q) (flat_map (propose_packets plan n message) gs)
      (λ k d l. not_stamp m g (get_or (flat_map (propose_packets plan n message) gs) k d) (are_stamps plan n message k d l)))
      ∙ or_false (list_any (is_packet q) (multicast_packets plan n message))
      ∙ any_mapped (is_packet q) (λ k. Multicast n k) sent gs
      ∙ any_one (λ k. sent k && ((m == n) && (g == k))) (sent g && (m == n)) g gs
      (λ k. and_assoc (sent k) (m == n) (g == k) ∙ to_one (λ i. sent i && (m == n)) g k)
      ∙ turned (sent g) (m == n) (is_addressed message g)

  stamps_found : (m h g k : ℕ) → list_any (is_packet (Propose m h g)) (propose_packets plan n message k) ≡ ((stamp_takes_time plan k g && ((m == n) && (h == k))) && is_addressed message g)
  stamps_found m h g k =
      let sent = stamp_takes_time plan k in
      any_mapped (is_packet (Propose m h g)) (λ i. Propose n k i) sent message.destinations
      ∙ any_one (λ i. sent i && ((m == n) && (h == k) && (g == i))) (sent g && ((m == n) && (h == k))) g message.destinations
      (λ i. and_assoc (sent i) ((m == n) && (h == k)) (g == i) ∙ to_one (λ j. sent j && ((m == n) && (h == k))) g i)

  propose_found : (m h g : ℕ) → list_any (is_packet (Propose m h g)) (message_packets plan n message) ≡ ((m == n) && sends plan message (Propose m h g))
  unfolding travelling
  propose_found m h g =
      let gs = message.destinations in
      let q = Propose m h g in
      past_waits q refl
      ∙ list_any-append (is_packet q) (multicast_packets plan n message) (flat_map (propose_packets plan n message) gs)
      ∙ ap (λ b. b || list_any (is_packet q) (flat_map (propose_packets plan n message) gs))
      (list_any_none (is_packet q) (multicast_packets plan n message) (λ k d l. not_multicast m h g (get_or (multicast_packets plan n message) k d) (are_multicasts plan n message k d l)))
      ∙ list_any-flat_map (is_packet q) (propose_packets plan n message) gs
      ∙ any_one (λ k. list_any (is_packet q) (propose_packets plan n message k)) (((m == n) && is_addressed message g) && stamp_takes_time plan h g) h gs
      (λ k. stamps_found m h g k
      ∙ grouped (stamp_takes_time plan k g) (m == n) (h == k) (is_addressed message g)
      ∙ to_one (λ j. ((m == n) && is_addressed message g) && stamp_takes_time plan j g) h k)
      ∙ regrouped (m == n) (is_addressed message g) (stamp_takes_time plan h g) (is_addressed message h)

  found : (p : Packet) → list_any (is_packet p) (message_packets plan n message) ≡ ((message_of p == n) && sends plan message p)
  found (Wait m) = wait_found m
  found (Multicast m g) = multicast_found m g
  found (Propose m h g) = propose_found m h g

ltb_suc : (a b : ℕ) → ltb a b ≡ ltb (1 + a) (suc b)
ltb_suc a b = grind (arith, nat_tests)

found_within : {X : Type 0} (p : X → Bool) (xs : List X) → list_any p xs ≡ ltb (position_or_len p xs) (length xs)
found_within p [] = refl
found_within p (x ∷ xs) = by_test (p x) (found_within p xs) where
  by_test : (b : Bool) → list_any p xs ≡ ltb (position_or_len p xs) (length xs) → (b || list_any p xs) ≡ ltb (cond (not b) (1 + position_or_len p xs) 0) (suc (length xs))
  by_test true e = sym (lt-ltb 0 (suc (length xs)) (omega arith))
  by_test false e = e ∙ ltb_suc (position_or_len p xs) (length xs)

is_some-position : {X : Type 0} (p : X → Bool) (xs : List X) → is_some (position p xs) ≡ list_any p xs
is_some-position p xs = known (ltb (position_or_len p xs) (length xs)) ∙ sym (found_within p xs) where
  known : (b : Bool) → is_some (cond b (Some (position_or_len p xs)) None) ≡ b
  known true = refl
  known false = refl

pub found_if_sent : (plan : Scenario) (p : Packet) → is_some (place_of p (packets_of plan)) ≡ is_sent plan p
unfolding packets_of
found_if_sent plan p =
    is_some-position (is_packet p) (packets_of plan)
    ∙ list_any-flat_map (is_packet p) (λ q. message_packets plan q.0 q.1) (enumerate_from 0 plan.multicasts)
    ∙ any_numbered (λ q. list_any (is_packet p) (message_packets plan q.0 q.1)) (λ message. sends plan message p) (message_of p) 0 (message_of p) plan.multicasts no_message (λ q. found plan q.0 q.1 p) (unaddressed plan p) (sym (zero-add (message_of p)))
    ∙ named p where
      named : (p : Packet) → sends plan (message_at plan (message_of p)) p ≡ is_sent plan p
      named (Wait m) = refl
      named (Multicast m g) = refl
      named (Propose m h g) = refl
