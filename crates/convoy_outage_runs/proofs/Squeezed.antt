-- What a scenario and the compressed one have in common, and how their ranges differ.
use Rattle.std.proofs.Common.{◌≡◌, ℕ, zero, suc, ◌+◌, ◌-◌, ◌*◌, ◌/◌, ◌<◌, ◌≤◌, ◌==◌, ◌&&◌, ◌||◌, max, min, Bool, true, false, not, cond, inl, inr, List, [], ◌∷◌, length, get_or, map, filter, fold, Option, Some, None, refl, sym, ap, ap₂, subst, ◌∙◌, arith}
use Rattle.std.specs.Option.{is_some, option_map, option_map_or}
use Rattle.std.proofs.lemmas.Bool.{false≢true}
use Rattle.std.proofs.lemmas.List.{length-map, get_or-map}
use Rattle.std.proofs.lemmas.Nat.{le-div}
use Rattle.std.proofs.Math.Nat.{mul-div-le}
use Rattle.convoy_draft.specs.declared.limits.TheConstants.{GREATEST_DELAY}
use Rattle.convoy_scenario.specs.declared.sender.Sender.{Sender}
use Rattle.convoy_scenario.specs.declared.sender.Sender.TheVariants.{Group}
use Rattle.convoy_scenario.specs.Scenario.{HaveSameHomes, Link, Message, Scenario, is_same_sender, link_between, message_at, no_message, range_between}
use Rattle.convoy_scenario.proofs.KeptRanges.{range_found}
use Rattle.convoy_packets.specs.declared.packet.Packet.{Packet}
use Rattle.convoy_packets.specs.declared.packet.Packet.TheVariants.{Wait, Multicast, Propose}
use Rattle.convoy_packets.specs.Packets.{is_wait, packets_of}
use Rattle.convoy_packets.specs.Assignment.{range_of}
use Rattle.convoy_packets.specs.ScheduleLaws.{is_sent}
use Rattle.convoy_sim.proofs.Membership.{IsIn, in-filter, in-map}
use Rattle.convoy_origin.proofs.PacketDelays.{in_of_sent}
use Rattle.convoy_laws.specs.IssueWindows.{AreAlike}
use Rattle.convoy_outage_runs.specs.Compressed.{compressed, compressed_link, compressed_span, message_saved, saved_ticks, shortest_travel}
use Rattle.convoy_outage_runs.proofs.Alike.{sends_alike}

-- ---- the least delay of all packets that travel
-- the least of some numbers is no more than any
least_start : (a : ℕ) (xs : List ℕ) → fold min a xs ≤ a
least_start a [] = omega arith
least_start a (x ∷ xs) = let rest = least_start (min a x) xs in omega arith

least_in : (a x : ℕ) (xs : List ℕ) → IsIn x xs → fold min a xs ≤ x
least_in a x [] i = absurd i
least_in a x (y ∷ ys) (inl e) = let rest = least_start (min a y) ys in omega arith
least_in a x (y ∷ ys) (inr i) = least_in (min a y) x ys i

-- no packet that travels has a lesser least delay than the least of all
pub shortest_is_least : (plan : Scenario) (packet : Packet) → is_sent plan packet ≡ true → is_wait packet ≡ false → shortest_travel plan ≤ (range_of plan packet).0
unfolding shortest_travel
shortest_is_least plan packet sent travels =
    least_in GREATEST_DELAY (range_of plan packet).0 (map (λ p. (range_of plan p).0) (filter (λ p. not (is_wait p)) (packets_of plan)))
    (in-map (λ p. (range_of plan p).0) packet (filter (λ p. not (is_wait p)) (packets_of plan))
    (in-filter (λ p. not (is_wait p)) packet (packets_of plan) (in_of_sent plan packet sent) (ap not travels)))

-- ---- links with other ranges
-- a link of other range leads between the same places, and is for stamps where it was
pub record KeepsPlaces (change : Link → Link) : Type 0 where
  pub sender : (link : Link) → (change link).sender ≡ link.sender
  pub to : (link : Link) → (change link).to ≡ link.to
  pub stamps : (link : Link) → (change link).stamps ≡ link.stamps

module _ (change : Link → Link) (keeps : KeepsPlaces change) where
  pub found_changed : (links : List Link) (sender : Sender) (to : ℕ) → link_between (map change links) sender to ≡ option_map change (link_between links sender to)
  found_changed [] sender to = refl
  found_changed (link ∷ links) sender to =
      ap (λ b. cond b (Some (change link)) (link_between (map change links) sender to))
      (ap₂ (λ (s : Sender) (t : ℕ). is_same_sender sender s && (to == t)) (keeps.sender link) (keeps.to link))
      ∙ by_test (is_same_sender sender link.sender && (to == link.to)) (found_changed links sender to) where
        by_test : (b : Bool) → link_between (map change links) sender to ≡ option_map change (link_between links sender to)
            → cond b (Some (change link)) (link_between (map change links) sender to) ≡ option_map change (cond b (Some link) (link_between links sender to))
        by_test true rest = refl
        by_test false rest = rest

  pub some_changed : (link : Option Link) → is_some (option_map change link) ≡ is_some link
  some_changed None = refl
  some_changed (Some link) = refl

  pub stamps_changed : (link : Option Link) → option_map_or (λ (l : Link). l.stamps) (option_map change link) false ≡ option_map_or (λ (l : Link). l.stamps) link false
  stamps_changed None = refl
  stamps_changed (Some link) = keeps.stamps link

-- ---- the compressed scenario
module _ (k span : ℕ) (plan : Scenario) where
  keeps : KeepsPlaces (compressed_link k span)
  keeps = record { sender = λ link. refl; to = λ link. refl; stamps = λ link. refl }

  pub squeezed_homes : HaveSameHomes plan (compressed k span plan)
  unfolding compressed
  squeezed_homes = record {
    messages = λ g.
        ap (λ found. not (g == g) || is_some found) (found_changed (compressed_link k span) keeps plan.links (Group g) g)
        ∙ ap (λ some. not (g == g) || some) (some_changed (compressed_link k span) keeps (link_between plan.links (Group g) g));
    stamps = λ g.
        ap (λ found. not (g == g) || option_map_or (λ (l : Link). l.stamps) found false) (found_changed (compressed_link k span) keeps plan.links (Group g) g)
        ∙ ap (λ stamps. not (g == g) || stamps) (stamps_changed (compressed_link k span) keeps (link_between plan.links (Group g) g));
  }

  pub squeezed_many : length (compressed k span plan).multicasts ≡ length plan.multicasts
  unfolding compressed
  squeezed_many = length-map plan.multicasts (message_saved (saved_ticks k span) (message_at plan plan.target_message))

  pub squeezed_groups : length (compressed k span plan).groups ≡ length plan.groups
  unfolding compressed
  squeezed_groups = refl

  pub squeezed_time : (compressed k span plan).time ≡ plan.time
  unfolding compressed
  squeezed_time = refl

  pub squeezed_target : ((compressed k span plan).target_message ≡ plan.target_message) × ((compressed k span plan).target_group ≡ plan.target_group)
  unfolding compressed
  squeezed_target = (refl, refl)

  pub squeezed_message : (m : ℕ) → m < length plan.multicasts
      → message_at (compressed k span plan) m ≡ message_saved (saved_ticks k span) (message_at plan plan.target_message) (message_at plan m)
  unfolding compressed
  squeezed_message m l = get_or-map (message_saved (saved_ticks k span) (message_at plan plan.target_message)) plan.multicasts m no_message no_message l

  message_in : (target : Message) (xs : List Message) (m : ℕ)
      → AreAlike (get_or xs m no_message) (get_or (map (message_saved (saved_ticks k span) target) xs) m no_message)
  message_in target [] m = record { sender = refl; destinations = refl }
  message_in target (x ∷ xs) zero = record { sender = refl; destinations = refl }
  message_in target (x ∷ xs) (suc m) = message_in target xs m

  pub squeezed_alike : (m : ℕ) → AreAlike (message_at plan m) (message_at (compressed k span plan) m)
  unfolding compressed
  squeezed_alike m = message_in (message_at plan plan.target_message) plan.multicasts m

  -- the same packets travel
  pub squeezed_sends : (packet : Packet) → is_wait packet ≡ false → is_sent (compressed k span plan) packet ≡ is_sent plan packet
  squeezed_sends = sends_alike plan (compressed k span plan) squeezed_homes squeezed_alike

  -- a range becomes longer: its least delay is a part of what it was, and its greatest one grows by the compressed outages
  abbrev pub IsSqueezed : ℕ × ℕ → ℕ × ℕ → Type 0
  IsSqueezed range squeezed = (k * squeezed.0 ≤ range.0) × (range.1 + compressed_span k span ≤ squeezed.1)

  module _ (some : 1 ≤ k) where
    by_link : (delay : ℕ) (found : Option Link)
        → k ≤ (range_found delay found).0
        → IsSqueezed (range_found delay found) (range_found (delay + compressed_span k span + min (k - 1) 1) (option_map (compressed_link k span) found))
    by_link delay None short = let one : k ≡ 1 = omega arith in let times : k * 1 ≡ 1 * 1 = ap (λ n. n * 1) one in (omega arith, omega arith)
    by_link delay (Some link) short =
        let part = le-div 1 link.least k (omega arith) (omega arith) in
        let same : max 1 (link.least / k) ≡ link.least / k = omega arith in
        let times : k * max 1 (link.least / k) ≡ k * (link.least / k) = ap (λ n. k * n) same in
        let falls : k * (link.least / k) ≤ link.least = mul-div-le link.least k in
        (omega arith, omega arith)

    pub squeezed_between : (sender : Sender) (to : ℕ) → k ≤ (range_between plan sender to).0 → IsSqueezed (range_between plan sender to) (range_between (compressed k span plan) sender to)
    unfolding compressed
    squeezed_between sender to short =
        subst (λ (found : Option Link). IsSqueezed (range_between plan sender to) (range_found (plan.delay + compressed_span k span + min (k - 1) 1) found))
        (sym (found_changed (compressed_link k span) keeps plan.links sender to))
        (by_link plan.delay (link_between plan.links sender to) short)

    pub squeezed_range : (packet : Packet) → is_wait packet ≡ false → k ≤ (range_of plan packet).0 → IsSqueezed (range_of plan packet) (range_of (compressed k span plan) packet)
    squeezed_range (Wait m) travels short = absurd (false≢true (sym travels))
    squeezed_range (Multicast m g) travels short =
        subst (λ (sender : Sender). IsSqueezed (range_of plan (Multicast m g)) (range_between (compressed k span plan) sender g))
        (sym (squeezed_alike m).sender) (squeezed_between (message_at plan m).sender g short)
    squeezed_range (Propose m h g) travels short = squeezed_between (Group h) g short
