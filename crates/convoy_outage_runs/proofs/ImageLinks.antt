-- Links in finer ticks, and links for all that goes to another place with none: each packet that travels has so many times its range.
use Rattle.std.proofs.Common.{◌≡◌, ℕ, ◌*◌, ◌==◌, ◌&&◌, ◌||◌, Bool, true, false, not, List, ◌++◌, map, filter, Option, Some, None, refl, sym, ap, ap₂, ◌∙◌}
use Rattle.std.specs.Option.{is_some, option_map, option_map_or, option_or}
use Rattle.std.proofs.lemmas.Bool.{and_from, and_parts, eq-eqb, eqb-true, false_from_ne_true, false≢true, not-true}
use Rattle.std.proofs.lemmas.List.Folds.{find-append}
use Rattle.convoy_scenario.specs.declared.sender.Sender.{Sender}
use Rattle.convoy_scenario.specs.declared.sender.Sender.TheVariants.{Client, Group}
use Rattle.convoy_scenario.specs.Scenario.{Link, Scenario, is_addressed, is_same_sender, link_between, message_at, range_between, stamp_takes_time, takes_time}
use Rattle.convoy_scenario.proofs.KeptRanges.{leads, one_sender, range_found}
use Rattle.convoy_packets.specs.declared.packet.Packet.{Packet}
use Rattle.convoy_packets.specs.declared.packet.Packet.TheVariants.{Wait, Multicast, Propose}
use Rattle.convoy_packets.specs.Packets.{is_wait, packets_of}
use Rattle.convoy_packets.specs.Assignment.{receiver_of, sender_of}
use Rattle.convoy_packets.specs.ScheduleLaws.{is_sent}
use Rattle.convoy_sim.proofs.Membership.{IsIn, find-in, find_none, in-filter, in-map, in_of_filter, in_of_find, in_of_map}
use Rattle.convoy_origin.proofs.PacketDelays.{in_of_sent}
use Rattle.convoy_laws.specs.FinerTicks.{finer_range}
use Rattle.convoy_outage_runs.proofs.Squeezed.{KeepsPlaces, found_changed}

-- a link in ticks so many times as fine
pub fine_link : ℕ → Link → Link
fine_link fine link = record link { least = fine * link.least; most = fine * link.most }

-- a packet that goes to another place
is_away : Scenario → Packet → Bool
is_away plan packet = not (is_wait packet) && not (is_same_sender (sender_of plan packet) (Group (receiver_of packet)))

-- a link for a packet that has none
away_link : ℕ → Scenario → Packet → Link
away_link fine plan packet = record { sender = sender_of plan packet; to = receiver_of packet; least = fine * 1; most = fine * plan.delay; stamps = false }

away_links : ℕ → Scenario → List Link
away_links fine plan = map (away_link fine plan) (filter (is_away plan) (packets_of plan))

pub image_links : ℕ → Scenario → List Link
image_links fine plan = map (fine_link fine) plan.links ++ away_links fine plan

module _ (fine : ℕ) (plan : Scenario) where
  pub fine_keeps : KeepsPlaces (fine_link fine)
  unfolding fine_link
  fine_keeps = record { sender = λ link. refl; to = λ link. refl; stamps = λ link. refl }

  found_in_image : (sender : Sender) (to : ℕ)
      → link_between (image_links fine plan) sender to ≡ option_or (option_map (fine_link fine) (link_between plan.links sender to)) (link_between (away_links fine plan) sender to)
  unfolding image_links
  found_in_image sender to =
      find-append (leads sender to) (map (fine_link fine) plan.links) (away_links fine plan)
      ∙ ap (λ found. option_or found (link_between (away_links fine plan) sender to)) (found_changed (fine_link fine) fine_keeps plan.links sender to)

  -- none of the others leads from a group to itself
  none_home : (g : ℕ) → link_between (away_links fine plan) (Group g) g ≡ None
  unfolding away_link away_links is_away
  none_home g = find_none (leads (Group g) g) (map (away_link fine plan) (filter (is_away plan) (packets_of plan))) (λ link i. leads_away link i) where
    leads_away : (link : Link) → IsIn link (map (away_link fine plan) (filter (is_away plan) (packets_of plan))) → leads (Group g) g link ≡ false
    leads_away link i =
        let from = in_of_map (away_link fine plan) link (filter (is_away plan) (packets_of plan)) i in
        let packet : Packet = from.0 in
        let away : is_away plan packet ≡ true = (in_of_filter (is_away plan) packet (packets_of plan) from.1).1 in
        let other : is_same_sender (sender_of plan packet) (Group (receiver_of packet)) ≡ false = not-true _ (and_parts (not (is_wait packet)) (not (is_same_sender (sender_of plan packet) (Group (receiver_of packet)))) away).1 in
        false_from_ne_true _ (λ e.
        let ends = and_parts (is_same_sender (Group g) link.sender) (g == link.to) e in
        let sender : Group g ≡ sender_of plan packet = one_sender (Group g) link.sender ends.0 ∙ sym (ap (λ (l : Link). l.sender) from.2) in
        let to : g ≡ receiver_of packet = eqb-true g link.to ends.1 ∙ sym (ap (λ (l : Link). l.to) from.2) in
        let home : is_same_sender (sender_of plan packet) (Group (receiver_of packet)) ≡ true = ap₂ (λ (s : Sender) (t : ℕ). is_same_sender s (Group t)) (sym sender) (sym to) ∙ eq-eqb g g refl in
        false≢true (sym other ∙ home))

  or_none : (found other : Option Link) → other ≡ None → option_or found other ≡ found
  or_none None other e = e
  or_none (Some link) other e = refl

  pub home_found : (g : ℕ) → link_between (image_links fine plan) (Group g) g ≡ option_map (fine_link fine) (link_between plan.links (Group g) g)
  home_found g = found_in_image (Group g) g ∙ or_none _ _ (none_home g)

  -- what is sent to another place has a link, whose range is that of what has none
  other_found : (packet : Packet) → is_sent plan packet ≡ true → is_away plan packet ≡ true
      → (link : Link) × (link_between (away_links fine plan) (sender_of plan packet) (receiver_of packet) ≡ Some link) × ((link.least, link.most) ≡ finer_range fine (1, plan.delay))
  unfolding away_link away_links
  other_found packet sent away =
      let others : List Packet = filter (is_away plan) (packets_of plan) in
      let leading : Link → Bool = leads (sender_of plan packet) (receiver_of packet) in
      let listed = in-map (away_link fine plan) packet others (in-filter (is_away plan) packet (packets_of plan) (in_of_sent plan packet sent) away) in
      let own : leading (away_link fine plan packet) ≡ true = and_from _ _ (same_itself (sender_of plan packet)) (eq-eqb (receiver_of packet) (receiver_of packet) refl) in
      let found = find-in leading (away_link fine plan packet) (map (away_link fine plan) others) listed own in
      let from = in_of_map (away_link fine plan) found.0 others (in_of_find leading found.0 (map (away_link fine plan) others) found.1).0 in
      (found.0, found.1, sym (ap (λ (l : Link). (l.least, l.most)) {x = away_link fine plan from.0} from.2)) where
        same_itself : (sender : Sender) → is_same_sender sender sender ≡ true
        same_itself (Client p) = eq-eqb p p refl
        same_itself (Group g) = eq-eqb g g refl

  -- the range of what is found, or of what has no link
  range_at : (packet : Packet) → is_sent plan packet ≡ true → (found : Option Link) → link_between plan.links (sender_of plan packet) (receiver_of packet) ≡ found
      → (found ≡ None → is_away plan packet ≡ true)
      → range_found (fine * plan.delay) (link_between (image_links fine plan) (sender_of plan packet) (receiver_of packet)) ≡ finer_range fine (range_found plan.delay found)
  unfolding fine_link
  range_at packet sent None none away =
      let other = other_found packet sent (away refl) in
      ap (range_found (fine * plan.delay))
      (found_in_image (sender_of plan packet) (receiver_of packet)
      ∙ ap₂ (λ (own rest : Option Link). option_or (option_map (fine_link fine) own) rest) none other.1)
      ∙ other.2
  range_at packet sent (Some link) some away =
      ap (range_found (fine * plan.delay))
      (found_in_image (sender_of plan packet) (receiver_of packet)
      ∙ ap (λ (own : Option Link). option_or (option_map (fine_link fine) own) (link_between (away_links fine plan) (sender_of plan packet) (receiver_of packet))) some)

  goes_away : (packet : Packet) → is_sent plan packet ≡ true → is_wait packet ≡ false → link_between plan.links (sender_of plan packet) (receiver_of packet) ≡ None → is_away plan packet ≡ true
  unfolding is_away
  goes_away (Wait m) sent travels none = absurd (false≢true (sym travels))
  goes_away (Multicast m g) sent travels none =
      let takes = (and_parts (is_addressed (message_at plan m) g) (takes_time plan (message_at plan m).sender g) sent).1 in
      no_link (not (is_same_sender (message_at plan m).sender (Group g))) (link_between plan.links (message_at plan m).sender g) none takes where
        no_link : (away : Bool) (found : Option Link) → found ≡ None → (away || is_some found) ≡ true → away ≡ true
        no_link true found e h = refl
        no_link false found e h = ap is_some (sym e) ∙ h
  goes_away (Propose m h g) sent travels none =
      let takes = (and_parts (is_addressed (message_at plan m) h && is_addressed (message_at plan m) g) (stamp_takes_time plan h g) sent).1 in
      no_link (not (h == g)) (link_between plan.links (Group h) g) none takes where
        no_link : (away : Bool) (found : Option Link) → found ≡ None → (away || option_map_or (λ (link : Link). link.stamps) found false) ≡ true → away ≡ true
        no_link true found e h = refl
        no_link false found e h = ap (λ found. option_map_or (λ (link : Link). link.stamps) found false) (sym e) ∙ h

  -- so each packet that travels has so many times its range
  pub range_of_found : (packet : Packet) → is_sent plan packet ≡ true → is_wait packet ≡ false
      → range_found (fine * plan.delay) (link_between (image_links fine plan) (sender_of plan packet) (receiver_of packet))
      ≡ finer_range fine (range_between plan (sender_of plan packet) (receiver_of packet))
  range_of_found packet sent travels =
      range_at packet sent (link_between plan.links (sender_of plan packet) (receiver_of packet)) refl (goes_away packet sent travels)
