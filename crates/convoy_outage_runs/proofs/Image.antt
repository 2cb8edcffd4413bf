-- The image of a run through outages: a scenario in finer ticks than the compressed one, with each message issued at the tick that becomes of its issue.
use Rattle.std.proofs.Common.{◌≡◌, ℕ, ◌+◌, ◌-◌, ◌*◌, ◌<◌, ◌≤◌, ◌==◌, ◌||◌, true, false, not, inl, inr, length, map, refl, sym, ap, subst, subst₂, ◌∙◌, arith}
use Rattle.std.specs.List.{AllZip, list_any}
use Rattle.std.specs.Option.{is_some, option_map_or}
use Rattle.std.proofs.lemmas.Bool.{and_parts, cases_lt, false≢true}
use Rattle.std.proofs.lemmas.List.{get_or_past}
use Rattle.std.proofs.lemmas.List.Elements.{AllZip-get_or}
use Rattle.std.proofs.lemmas.List.FromFn.{get_or-map-range_with_len, length-map-range_with_len}
use Rattle.convoy_scenario.specs.declared.sender.Sender.TheVariants.{Group}
use Rattle.convoy_scenario.specs.Scenario.{HaveSameHomes, Link, Message, Scenario, is_addressed, link_between, message_at, message_numbers, no_message, range_between, takes_time}
use Rattle.convoy_packets.specs.declared.packet.Packet.{Packet}
use Rattle.convoy_packets.specs.declared.packet.Packet.TheVariants.{Wait, Multicast, Propose}
use Rattle.convoy_packets.specs.Packets.{is_wait}
use Rattle.convoy_packets.specs.Assignment.{Schedule, range_of, receiver_of, sender_of}
use Rattle.convoy_packets.specs.ScheduleLaws.{is_sent}
use Rattle.convoy_sim.specs.Times.{issue}
use Rattle.convoy_sim.proofs.Addressed.{number_of_goes}
use Rattle.convoy_laws.specs.FinerTicks.{IsFiner, IsFinerMessage, IsInRange, finer_range}
use Rattle.convoy_laws.proofs.Ceiling.{times_rise}
use Rattle.convoy_outages.specs.Outages.{Outages}
use Rattle.convoy_outage_runs.specs.OutageRuns.{IsRunThrough, LastInAll}
use Rattle.convoy_outage_runs.specs.Compressed.{compressed, first_tick_saved, last_tick_saved, message_saved, saved_ticks}
use Rattle.convoy_outage_runs.proofs.Slowed.{near, slowed, window_first, window_last}
use Rattle.convoy_outage_runs.proofs.Squeezed.{some_changed, squeezed_groups, squeezed_many, squeezed_message, squeezed_target, stamps_changed}
use Rattle.convoy_outage_runs.proofs.Alike.{zip_by_place}
use Rattle.convoy_outage_runs.proofs.Told.{issued_within, told_many, told_message}
use Rattle.convoy_outage_runs.proofs.ImageLinks.{fine_keeps, fine_link, home_found, image_links, range_of_found}

module _ (down : Outages) (k times span : ℕ) (plan told : Scenario) (schedule : Schedule) where
  abbrev squeezed : Scenario
  squeezed = compressed k span plan

  -- the tick at which the target is issued in the run
  abbrev target_issue : ℕ
  target_issue = issue told schedule told.target_message

  -- the tick that becomes of a tick of the run
  abbrev pub slow : ℕ → ℕ
  slow = slowed down k target_issue

  issued_message : ℕ → Message
  issued_message m = record (message_at told m) { at = slow (issue told schedule m); longest_wait = 0 }

  pub image : Scenario
  image = record told {
    delay = (k * times) * squeezed.delay;
    links = image_links (k * times) squeezed;
    multicasts = map issued_message (message_numbers told);
  }

  -- ---- its messages are those of the run, issued when they are there
  pub image_many : length image.multicasts ≡ length told.multicasts
  unfolding image
  image_many = length-map-range_with_len issued_message 0 (length told.multicasts)

  image_message : (m : ℕ) → m < length told.multicasts → message_at image m ≡ issued_message m
  unfolding image
  image_message m l = get_or-map-range_with_len issued_message 0 (length told.multicasts) m m no_message l (omega arith)

  pub image_at : (m : ℕ) → m < length told.multicasts → (message_at image m).at ≡ slow (issue told schedule m)
  unfolding issued_message
  image_at m l = ap (λ (message : Message). message.at) (image_message m l)

  pub image_wait : (m : ℕ) → (message_at image m).longest_wait ≡ 0
  unfolding issued_message
  image_wait m = elim (cases_lt m (length told.multicasts)) [
    | inl l ↦ ap (λ (message : Message). message.longest_wait) (image_message m l)
    | inr past ↦ let many = image_many in ap (λ (message : Message). message.longest_wait) (get_or_past image.multicasts m no_message (omega arith))
  ]

  pub image_destinations : (m : ℕ) → (message_at image m).destinations ≡ (message_at told m).destinations
  unfolding issued_message
  image_destinations m = elim (cases_lt m (length told.multicasts)) [
    | inl l ↦ ap (λ (message : Message). message.destinations) (image_message m l)
    | inr past ↦
        let many = image_many in
        ap (λ (message : Message). message.destinations) (get_or_past image.multicasts m no_message (omega arith) ∙ sym (get_or_past told.multicasts m no_message past))
  ]

  pub image_addressed : (m g : ℕ) → is_addressed (message_at image m) g ≡ is_addressed (message_at told m) g
  image_addressed m g = ap (λ hs. list_any (λ h. h == g) hs) (image_destinations m)

  pub image_parts : (image.time ≡ told.time) × (length image.groups ≡ length told.groups) × (image.target_message ≡ told.target_message) × (image.target_group ≡ told.target_group)
  unfolding image
  image_parts = (refl, refl, refl, refl)

  image_homes : HaveSameHomes squeezed image
  unfolding image
  image_homes = record {
    messages = λ g.
        ap (λ found. not (g == g) || is_some found) (home_found (k * times) squeezed g)
        ∙ ap (λ some. not (g == g) || some) (some_changed (fine_link (k * times)) (fine_keeps (k * times) squeezed) (link_between squeezed.links (Group g) g));
    stamps = λ g.
        ap (λ found. not (g == g) || option_map_or (λ (l : Link). l.stamps) found false) (home_found (k * times) squeezed g)
        ∙ ap (λ stamps. not (g == g) || stamps) (stamps_changed (fine_link (k * times)) (fine_keeps (k * times) squeezed) (link_between squeezed.links (Group g) g));
  }

  -- ---- it is the compressed scenario in finer ticks
  module _ (run : IsRunThrough down times plan told schedule) (some : 1 ≤ k) (short : LastInAll (times * span) down) where
    squeezed_told : (m : ℕ) → m < length plan.multicasts → plan.target_message < length plan.multicasts
        → IsFinerMessage (k * times) (message_saved (saved_ticks k span) (message_at plan plan.target_message) (message_at plan m)) (issued_message m)
    unfolding issued_message
    squeezed_told m l target =
        let saved : ℕ = saved_ticks k span in
        let message : Message = message_at plan m in
        let other : Message = message_at plan plan.target_message in
        let is = told_message down times plan told schedule run m l in
        let own = issued_within down times plan told schedule run m l in
        let there : (times * other.at ≤ target_issue) × (target_issue ≤ times * (other.at + other.longest_wait)) =
        subst (λ (n : ℕ). (times * other.at ≤ issue told schedule n) × (issue told schedule n ≤ times * (other.at + other.longest_wait))) (sym run.target_message) (issued_within down times plan told schedule run plan.target_message target) in
        let place = near down k target_issue some (times * span) short (issue told schedule m) in
        let low = window_first k times span some target_issue (issue told schedule m) (slow (issue told schedule m)) place message.at other.at own.0 there.0 in
        let high = window_last k times span some target_issue (issue told schedule m) (slow (issue told schedule m)) place (message.at + message.longest_wait) (other.at + other.longest_wait) own.1 there.1 in
        let rise = times_rise (k * times) (last_tick_saved saved other message) (first_tick_saved saved other message + (last_tick_saved saved other message - first_tick_saved saved other message)) (omega arith) in
        record { sender = is.sender; destinations = is.destinations; at = low; until = omega arith }

    module _ (target : plan.target_message < length plan.multicasts) where
      image_messages : AllZip (IsFinerMessage (k * times)) squeezed.multicasts image.multicasts
      image_messages =
          zip_by_place (IsFinerMessage (k * times)) no_message no_message squeezed.multicasts image.multicasts (image_many ∙ told_many down times plan told schedule run ∙ sym (squeezed_many k span plan))
          (λ m l.
          let few : m < length plan.multicasts = subst (λ (n : ℕ). m < n) (squeezed_many k span plan) l in
          subst₂ (IsFinerMessage (k * times)) (sym (squeezed_message k span plan m few)) (sym (image_message m (subst (λ (n : ℕ). m < n) (sym (told_many down times plan told schedule run)) few))) (squeezed_told m few target))

      -- what is found in the image's links
      image_between : (packet : Packet) → is_sent squeezed packet ≡ true → is_wait packet ≡ false
          → range_between image (sender_of squeezed packet) (receiver_of packet) ≡ finer_range (k * times) (range_between squeezed (sender_of squeezed packet) (receiver_of packet))
      unfolding image
      image_between packet sent travels = range_of_found (k * times) squeezed packet sent travels

      pub image_range : (packet : Packet) → is_sent squeezed packet ≡ true → is_wait packet ≡ false → range_of image packet ≡ finer_range (k * times) (range_of squeezed packet)
      image_range (Wait m) sent travels = absurd (false≢true (sym travels))
      image_range (Multicast m g) sent travels =
          let goes = (and_parts (is_addressed (message_at squeezed m) g) (takes_time squeezed (message_at squeezed m).sender g) sent).0 in
          let same = (AllZip-get_or (IsFinerMessage (k * times)) squeezed.multicasts image.multicasts m no_message no_message image_messages (number_of_goes squeezed m g goes)).sender in
          ap (λ sender. range_between image sender g) same ∙ image_between (Multicast m g) sent travels
      image_range (Propose m h g) sent travels = image_between (Propose m h g) sent travels

      pub is_finer : IsFiner (k * times) squeezed image
      is_finer =
          let parts = image_parts in
          let own = squeezed_target k span plan in
          let rise = times_rise k 1 times run.some in
          record {
            some = omega arith;
            groups = parts.1 ∙ run.groups ∙ sym (squeezed_groups k span plan);
            messages = image_messages;
            homes = image_homes;
            ranges = λ packet sent travels. within (range_of squeezed packet) (range_of image packet) (image_range packet sent travels);
            target_message = parts.2 ∙ run.target_message ∙ sym own.0;
            target_group = parts.3 ∙ run.target_group ∙ sym own.1;
          }
        where
          within : (range finer : ℕ × ℕ) → finer ≡ finer_range (k * times) range → IsInRange (k * times) range finer
          within range finer e = rw e (omega arith, omega arith)
