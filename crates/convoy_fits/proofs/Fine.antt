-- What the test of a scenario in fine ticks tells.
use Rattle.std.proofs.Common.{◌≡◌, ℕ, zero, suc, ◌+◌, ◌*◌, ◌==◌, leb, leb-true, Bool, true, false, ◌&&◌, ◌||◌, not, List, [], ◌∷◌, length, get_or, Option, Some, None, is_some, inl, inr, refl, sym, ap, ap₂, ◌∙◌}
use Rattle.std.specs.List.{AllZip, list_all, list_any, slice_get}
use Rattle.std.specs.Option.{option_map_or}
use Rattle.std.specs.Str.{bytes_eq}
use Rattle.std.proofs.lemmas.Bool.{and_parts, cases_Bool, eq-eqb, eqb-true, false≢true}
use Rattle.convoy_draft.specs.declared.time.Time.{Time}
use Rattle.convoy_draft.specs.declared.time.Time.TheVariants.{Ticks, Real}
use Rattle.convoy_scenario.specs.declared.sender.Sender.{Sender}
use Rattle.convoy_scenario.specs.declared.sender.Sender.TheVariants.{Client, Group}
use Rattle.convoy_scenario.specs.Scenario.{HaveSameHomes, Link, Message, Scenario, is_same_sender, link_between, message_at, no_message, stamp_takes_time, takes_time}
use Rattle.convoy_scenario.proofs.TakingTime.{same_takes}
use Rattle.convoy_scenario.specs.WellFormed.{IsScenario}
use Rattle.convoy_packets.specs.declared.packet.Packet.{Packet}
use Rattle.convoy_packets.specs.declared.packet.Packet.TheVariants.{Wait, Multicast, Propose}
use Rattle.convoy_packets.specs.Packets.{is_wait, packets_of, place_of}
use Rattle.convoy_packets.specs.Assignment.{Schedule, IsAssignment, range_of}
use Rattle.convoy_packets.specs.ScheduleLaws.{is_sent}
use Rattle.convoy_packets.proofs.Places.{stands_where_found}
use Rattle.convoy_packets.proofs.Sent.{found_if_sent}
use Rattle.convoy_laws.specs.FinerTicks.{IsFiner, IsFinerMessage, IsInRange}
use Rattle.convoy_fits.specs.Finer.{all_take_time, are_finer_messages, has_finer_range, have_same_homes, is_finer, is_finer_message, is_real, takes_too}
use Rattle.convoy_fits.specs.Runs.{IsRealRun}

real_is : (t : Time) → is_real t ≡ true → t ≡ Real
real_is Ticks e = absurd (false≢true e)
real_is Real e = refl

same_lists : (xs ys : List ℕ) → bytes_eq xs ys ≡ true → xs ≡ ys
same_lists [] [] e = refl
same_lists [] (y ∷ ys) e = absurd (false≢true e)
same_lists (x ∷ xs) [] e = absurd (false≢true e)
same_lists (x ∷ xs) (y ∷ ys) e =
    let p = and_parts (x == y) (bytes_eq xs ys) e in
    let first : x ≡ y = eqb-true x y p.0 in
    let rest : xs ≡ ys = same_lists xs ys p.1 in
    cc

same_senders : (s t : Sender) → is_same_sender s t ≡ true → s ≡ t
same_senders (Client p) (Client q) e = ap Client (eqb-true p q e)
same_senders (Client p) (Group g) e = absurd (false≢true e)
same_senders (Group g) (Client q) e = absurd (false≢true e)
same_senders (Group g) (Group h) e = ap Group (eqb-true g h e)

finer_message : (factor : ℕ) (message finer : Message) → is_finer_message factor message finer ≡ true → IsFinerMessage factor message finer
finer_message factor message finer e =
    let senders = is_same_sender finer.sender message.sender in
    let lists = bytes_eq finer.destinations message.destinations in
    let low = leb (factor * message.at) finer.at in
    let high = leb (finer.at + finer.longest_wait) (factor * (message.at + message.longest_wait)) in
    let p = and_parts (senders && lists && low) high e in
    let q = and_parts (senders && lists) low p.0 in
    let r = and_parts senders lists q.0 in
    record {
      sender = same_senders finer.sender message.sender r.0;
      destinations = same_lists finer.destinations message.destinations r.1;
      at = leb-true (factor * message.at) finer.at q.1;
      until = leb-true (finer.at + finer.longest_wait) (factor * (message.at + message.longest_wait)) p.1;
    }

finer_messages : (factor : ℕ) (ms fs : List Message) → are_finer_messages factor ms fs ≡ true → AllZip (IsFinerMessage factor) ms fs
finer_messages factor [] [] e = tt
finer_messages factor [] (f ∷ fs) e = absurd (false≢true e)
finer_messages factor (m ∷ ms) [] e = absurd (false≢true e)
finer_messages factor (m ∷ ms) (f ∷ fs) e =
    let p = and_parts (is_finer_message factor m f) (are_finer_messages factor ms fs) e in
    (finer_message factor m f p.0, finer_messages factor ms fs p.1)

like_at : (factor : ℕ) (ms fs : List Message) (m : ℕ) → AllZip (IsFinerMessage factor) ms fs
    → ((get_or fs m no_message).sender ≡ (get_or ms m no_message).sender) × ((get_or fs m no_message).destinations ≡ (get_or ms m no_message).destinations)
like_at factor [] [] m h = (refl, refl)
like_at factor [] (f ∷ fs) m h = absurd h
like_at factor (x ∷ ms) [] m h = absurd h
like_at factor (x ∷ ms) (f ∷ fs) zero h = (h.0.sender, h.0.destinations)
like_at factor (x ∷ ms) (f ∷ fs) (suc m) h = like_at factor ms fs m h.1

-- a packet that travels is one of both, or of none
pub sent_too : (factor : ℕ) (scenario finer : Scenario) → AllZip (IsFinerMessage factor) scenario.multicasts finer.multicasts → HaveSameHomes scenario finer
    → (packet : Packet) → is_wait packet ≡ false → is_sent finer packet ≡ is_sent scenario packet
sent_too factor scenario finer messages homes (Wait m) travels = absurd cc
sent_too factor scenario finer messages homes (Multicast m g) travels =
    let l = like_at factor scenario.multicasts finer.multicasts m messages in
    ap₂ (λ a b. a && b) (ap (λ (hs : List ℕ). list_any (λ h. h == g) hs) l.1)
    ((same_takes scenario finer homes).messages (message_at finer m).sender g ∙ ap (λ (sender : Sender). takes_time scenario sender g) l.0)
sent_too factor scenario finer messages homes (Propose m h g) travels =
    let l = like_at factor scenario.multicasts finer.multicasts m messages in
    ap₂ (λ a b. a && b) (ap (λ (hs : List ℕ). list_any (λ k. k == h) hs && list_any (λ k. k == g) hs) l.1)
    ((same_takes scenario finer homes).stamps h g)

-- ---- links from a group to itself

-- where what goes by any link of the one scenario takes time in the other, a group with a link to itself has one there
module _ (scenario other : Scenario) (all_too : all_take_time other scenario.links ≡ true) (g : ℕ) where
  message_there : takes_time scenario (Group g) g ≡ true → takes_time other (Group g) g ≡ true
  message_there takes = of_links scenario.links all_too (rw (eq-eqb g g refl) at takes) where
    of_links : (links : List Link) → all_take_time other links ≡ true → is_some (link_between links (Group g) g) ≡ true → takes_time other (Group g) g ≡ true
    of_links [] all some = absurd (false≢true some)
    of_links (link ∷ links) all some =
        let parts = and_parts (takes_too other link) (all_take_time other links) all in
        elim (cases_Bool (is_same_sender (Group g) link.sender && (g == link.to))) [
          | inl here ↦
              let ends = and_parts (is_same_sender (Group g) link.sender) (g == link.to) here in
              let from : Group g ≡ link.sender = same_senders (Group g) link.sender ends.0 in
              let there : g ≡ link.to = eqb-true g link.to ends.1 in
              ap₂ (λ (sender : Sender) (to : ℕ). takes_time other sender to) from there
              ∙ (and_parts (takes_time other link.sender link.to) (not link.stamps || stamp_takes_time other link.to link.to) parts.0).0
          | inr away ↦ of_links links parts.1 (rw away at some)
        ]

  stamp_there : stamp_takes_time scenario g g ≡ true → stamp_takes_time other g g ≡ true
  stamp_there takes = of_links scenario.links all_too (rw (eq-eqb g g refl) at takes) where
    of_links : (links : List Link) → all_take_time other links ≡ true → option_map_or (λ (link : Link). link.stamps) (link_between links (Group g) g) false ≡ true
        → stamp_takes_time other g g ≡ true
    of_links [] all some = absurd (false≢true some)
    of_links (link ∷ links) all some =
        let parts = and_parts (takes_too other link) (all_take_time other links) all in
        elim (cases_Bool (is_same_sender (Group g) link.sender && (g == link.to))) [
          | inl here ↦
              let there : g ≡ link.to = eqb-true g link.to (and_parts (is_same_sender (Group g) link.sender) (g == link.to) here).1 in
              let for_stamps : link.stamps ≡ true = rw here at some in
              let too = (and_parts (takes_time other link.sender link.to) (not link.stamps || stamp_takes_time other link.to link.to) parts.0).1 in
              ap (λ (to : ℕ). stamp_takes_time other to to) there ∙ (rw for_stamps at too)
          | inr away ↦ of_links links parts.1 (rw away at some)
        ]

both_or_none : (a b : Bool) → (a ≡ true → b ≡ true) → (b ≡ true → a ≡ true) → b ≡ a
both_or_none true b there back = there refl
both_or_none false true there back = sym (back refl)
both_or_none false false there back = refl

same_homes : (scenario finer : Scenario) → have_same_homes scenario finer ≡ true → HaveSameHomes scenario finer
same_homes scenario finer e =
    let parts = and_parts (all_take_time scenario finer.links) (all_take_time finer scenario.links) e in
    record {
      messages = λ g.
          both_or_none (takes_time scenario (Group g) g) (takes_time finer (Group g) g) (message_there scenario finer parts.1 g) (message_there finer scenario parts.0 g);
      stamps = λ g.
          both_or_none (stamp_takes_time scenario g g) (stamp_takes_time finer g g) (stamp_there scenario finer parts.1 g) (stamp_there finer scenario parts.0 g);
    }

some_is : (o : Option ℕ) → is_some o ≡ true → (i : ℕ) × (o ≡ Some i)
some_is (Some i) e = (i, refl)
some_is None e = absurd (false≢true e)

held : (p : Packet → Bool) (xs : List Packet) (i : ℕ) (x : Packet) → list_all p xs ≡ true → slice_get xs i ≡ Some x → p x ≡ true
held p [] i x all at = absurd cc
held p (y ∷ ys) zero x all at =
    let same : y ≡ x = cc in
    let q = and_parts (p y) (list_all p ys) all in
    rw (← same) q.0
held p (y ∷ ys) (suc i) x all at = held p ys i x (and_parts (p y) (list_all p ys) all).1 at

range_in : (factor : ℕ) (scenario finer : Scenario) (packet : Packet) → list_all (has_finer_range factor scenario finer) (packets_of finer) ≡ true
    → is_sent finer packet ≡ true → IsInRange factor (range_of scenario packet) (range_of finer packet)
range_in factor scenario finer packet all sent =
    let found = some_is (place_of packet (packets_of finer)) (found_if_sent finer packet ∙ sent) in
    let there = stands_where_found (packets_of finer) found.0 packet found.1 in
    let e = held (has_finer_range factor scenario finer) (packets_of finer) found.0 packet all there in
    let p = and_parts (leb (factor * (range_of scenario packet).0) (range_of finer packet).0) (leb (range_of finer packet).1 (factor * (range_of scenario packet).1)) e in
    (leb-true _ _ p.0, leb-true _ _ p.1)

all_parts : (a b c d e f g h i : Bool) → (a && b && c && d && e && f && g && h && i) ≡ true
    → (a ≡ true) × (b ≡ true) × (c ≡ true) × (d ≡ true) × (e ≡ true) × (f ≡ true) × (g ≡ true) × (h ≡ true) × (i ≡ true)
all_parts a b c d e f g h i holds =
    let p8 = and_parts (a && b && c && d && e && f && g && h) i holds in
    let p7 = and_parts (a && b && c && d && e && f && g) h p8.0 in
    let p6 = and_parts (a && b && c && d && e && f) g p7.0 in
    let p5 = and_parts (a && b && c && d && e) f p6.0 in
    let p4 = and_parts (a && b && c && d) e p5.0 in
    let p3 = and_parts (a && b && c) d p4.0 in
    let p2 = and_parts (a && b) c p3.0 in
    let p1 = and_parts a b p2.0 in
    (p1.0, p1.1, p2.1, p3.1, p4.1, p5.1, p6.1, p7.1, p8.1)

module _ (factor : ℕ) (scenario finer : Scenario) (holds : is_finer factor scenario finer ≡ true) where
  parts : (is_real finer.time ≡ true) × (leb 1 factor ≡ true) × ((length finer.groups == length scenario.groups) ≡ true)
      × ((length finer.multicasts == length scenario.multicasts) ≡ true) × (are_finer_messages factor scenario.multicasts finer.multicasts ≡ true)
      × (have_same_homes scenario finer ≡ true)
      × (list_all (has_finer_range factor scenario finer) (packets_of finer) ≡ true) × ((finer.target_message == scenario.target_message) ≡ true)
      × ((finer.target_group == scenario.target_group) ≡ true)
  parts =
      all_parts (is_real finer.time) (leb 1 factor) (length finer.groups == length scenario.groups) (length finer.multicasts == length scenario.multicasts)
      (are_finer_messages factor scenario.multicasts finer.multicasts) (have_same_homes scenario finer) (list_all (has_finer_range factor scenario finer) (packets_of finer))
      (finer.target_message == scenario.target_message) (finer.target_group == scenario.target_group) holds

  pub time_is_real : finer.time ≡ Real
  time_is_real = real_is finer.time parts.0

  pub target_message_kept : finer.target_message ≡ scenario.target_message
  target_message_kept = eqb-true finer.target_message scenario.target_message parts.7

  pub target_group_kept : finer.target_group ≡ scenario.target_group
  target_group_kept = eqb-true finer.target_group scenario.target_group parts.8

  pub finer_from : IsFiner factor scenario finer
  finer_from =
      let zipped = finer_messages factor scenario.multicasts finer.multicasts parts.4 in
      let homes = same_homes scenario finer parts.5 in
      record {
        some = leb-true 1 factor parts.1;
        groups = eqb-true (length finer.groups) (length scenario.groups) parts.2;
        messages = zipped;
        homes = homes;
        ranges = λ packet sent travels. range_in factor scenario finer packet parts.6 (sent_too factor scenario finer zipped homes packet travels ∙ sent);
        target_message = target_message_kept;
        target_group = target_group_kept;
      }

  pub real_run : (schedule : Schedule) → IsScenario finer → IsAssignment finer schedule → IsRealRun factor scenario finer schedule
  real_run schedule well assigned = record { told_finer = finer_from; well_formed = well; real = time_is_real; assignment = assigned }
