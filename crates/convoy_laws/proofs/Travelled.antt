-- The way of each packet that goes to another place: it is one on which something goes by the scenario as it is written.
use Rattle.std.proofs.Common.{◌≡◌, ℕ, zero, suc, ◌<◌, ◌==◌, ◌&&◌, leb, Bool, true, false, not, List, [], ◌∷◌, ◌++◌, length, get_or, map, take, Option, Some, None, inl, inr, refl, sym, ap, subst, ◌∙◌, arith}
use Rattle.std.specs.List.{list_all, list_any, IsDistinct}
use Rattle.std.specs.Str.{bytes_eq}
use Rattle.std.proofs.lemmas.Bool.{and_parts, eqb-true, eqb-false, false≢true, false_from_ne_true, leb-true, or_cases, or_right}
use Rattle.std.proofs.lemmas.List.{take_all}
use Rattle.std.proofs.lemmas.List.Elements.{Contains-get_or}
use Rattle.convoy_draft.specs.declared.limits.TheConstants.{MOST_GROUPS, MOST_PLACES}
use Rattle.convoy_draft.specs.Checks.{is_among, is_known_sender, is_named_alike, knows}
use Rattle.convoy_draft.specs.Draft.{Draft, DraftMessage}
use Rattle.convoy_scenario.specs.declared.sender.Sender.{Sender}
use Rattle.convoy_scenario.specs.declared.sender.Sender.TheVariants.{Group}
use Rattle.convoy_scenario.specs.Numbering.{message_of, numbers_of, place, scenario_of, sender_of}
use Rattle.convoy_scenario.specs.Scenario.{Message, is_addressed, is_same_sender, message_at, no_message, stamp_takes_time, takes_time}
use Rattle.convoy_scenario.proofs.NumberedAgain.{itself, one_place, place_again, same_bytes}
use Rattle.convoy_scenario.proofs.NumberedLemmas.{Passes, groups_distinct}
use Rattle.convoy_packets.specs.declared.packet.Packet.{Packet}
use Rattle.convoy_packets.specs.declared.packet.Packet.TheVariants.{Wait, Multicast, Propose}
use Rattle.convoy_packets.specs.Assignment.{sender_of as packet_sender, receiver_of}
use Rattle.convoy_packets.specs.ScheduleLaws.{is_sent}
use Rattle.convoy_packets.specs.Packets.{is_wait}
use Rattle.convoy_sim.proofs.Membership.{IsIn, in-append_left, in-append_right, in-flat_map, in-map, in_of_contains, in_of_filter, in_of_list_any, in_of_range, list_any_in}
use Rattle.convoy_toml.specs.Ways.{Way, carries, ways_between, ways_from, ways_from_all}

-- something goes from the sender to the group by what is written, on this way
pub record Goes (draft : Draft) (sender : Sender) (to : ℕ) : Type 0 where
  pub way : Way
  pub from : sender_of draft.groups draft.places way.sender ≡ sender
  pub there : place way.to draft.groups ≡ to
  pub between : IsIn way (ways_between (take MOST_GROUPS draft.groups) (take MOST_PLACES draft.places))
  pub carried : list_any (carries way) draft.messages ≡ true

-- ---- the message of a packet, and its destinations

-- the message as it is written
record IsWritten (groups places : List (List ℕ)) (messages : List DraftMessage) (message : Message) : Type 0 where
  written : DraftMessage
  there : IsIn written messages
  is : message ≡ message_of groups places written

written_at : (groups places : List (List ℕ)) (messages : List DraftMessage) (m g : ℕ) → is_addressed (get_or (map (message_of groups places) messages) m no_message) g ≡ true
    → IsWritten groups places messages (get_or (map (message_of groups places) messages) m no_message)
written_at groups places [] m g e = absurd (false≢true e)
written_at groups places (message ∷ messages) zero g e = record { written = message; there = inl refl; is = refl }
written_at groups places (message ∷ messages) (suc m) g e =
    let rest = written_at groups places messages m g e in
    record { written = rest.written; there = inr rest.there; is = rest.is }

-- the group has a number, and is named there
record IsNamed (groups named : List (List ℕ)) (g : ℕ) : Type 0 where
  below : g < length groups
  among : is_among (get_or groups g []) named ≡ true

named_of : (groups named : List (List ℕ)) (g : ℕ) → list_any (λ h. h == g) (numbers_of groups named) ≡ true → IsNamed groups named g
named_of groups named g e =
    let found = in_of_list_any (λ h. h == g) (numbers_of groups named) e in
    let same : found.0 ≡ g = eqb-true found.0 g found.2 in
    let here : IsIn g (numbers_of groups named) = subst (λ (n : ℕ). IsIn n (numbers_of groups named)) same found.1 in
    let kept = in_of_filter (λ h. is_among (get_or groups h []) named) g _ here in
    record { below = omega (arith, (in_of_range g 0 (length groups) kept.0).1); among = kept.1 }

-- ---- the ways between groups

name_in : (groups : List (List ℕ)) (g : ℕ) → g < length groups → IsIn (get_or groups g []) groups
name_in groups g below = in_of_contains (get_or groups g []) groups (Contains-get_or groups g [] below)

among_in : (groups : List (List ℕ)) (name : List ℕ) → is_among name groups ≡ true → IsIn name groups
among_in groups name e =
    let found = in_of_list_any (bytes_eq name) groups e in
    let same : name ≡ found.0 = same_bytes name found.0 found.2 in
    subst (λ (n : List ℕ). IsIn n groups) (sym same) found.1

abbrev way_to : Option (List ℕ) → List ℕ → Way
way_to sender to = record { sender = sender; to = to }

way_from : (groups senders : List (List ℕ)) (from to : List ℕ) → is_among from senders ≡ true → IsIn to groups → IsIn (way_to (Some from) to) (ways_from_all groups senders)
way_from groups senders from to sends there =
    in-flat_map (λ sender. ways_from groups (Some sender)) from (way_to (Some from) to) senders (among_in senders from sends) (in-map (way_to (Some from)) to groups there)

way_between : (groups places : List (List ℕ)) (sender : Option (List ℕ)) (to : List ℕ) → is_known_sender groups places sender ≡ true → IsIn to groups
    → IsIn (way_to sender to) (ways_between groups places)
way_between groups places None to known there =
    in-append_left (way_to None to) (ways_from groups None ++ ways_from_all groups places) (ways_from_all groups groups)
    (in-append_left (way_to None to) (ways_from groups None) (ways_from_all groups places) (in-map (way_to None) to groups there))
way_between groups places (Some from) to known there =
    elim (or_cases (is_among from groups) (is_among from places) known) [
      | inl group ↦ in-append_right (way_to (Some from) to) (ways_from groups None ++ ways_from_all groups places) (ways_from_all groups groups) (way_from groups groups from to group there)
      | inr place ↦
          in-append_left (way_to (Some from) to) (ways_from groups None ++ ways_from_all groups places) (ways_from_all groups groups)
          (in-append_right (way_to (Some from) to) (ways_from groups None) (ways_from_all groups places) (way_from groups places from to place there))
    ]

alike_itself : (sender : Option (List ℕ)) → is_named_alike sender sender ≡ true
alike_itself None = refl
alike_itself (Some name) = itself name

module _ (draft : Draft) (passed : Passes draft) where
  abbrev groups : List (List ℕ)
  groups = draft.groups

  abbrev places : List (List ℕ)
  places = draft.places

  distinct : IsDistinct bytes_eq groups
  distinct = groups_distinct groups passed.groups_differ

  all_groups : take MOST_GROUPS groups ≡ groups
  all_groups = take_all MOST_GROUPS groups (leb-true (length groups) MOST_GROUPS (and_parts (leb 1 (length groups)) (leb (length groups) MOST_GROUPS) passed.groups).1)

  all_places : take MOST_PLACES places ≡ places
  all_places = take_all MOST_PLACES places (leb-true (length places) MOST_PLACES passed.places)

  message_known : (message : DraftMessage) → IsIn message draft.messages → is_known_sender groups places message.sender ≡ true
  message_known message there = (and_parts (is_known_sender groups places message.sender) _ (list_all_in (knows groups places) message draft.messages there passed.known)).0 where
    list_all_in : {A : Type 0} (p : A → Bool) (x : A) (xs : List A) → IsIn x xs → list_all p xs ≡ true → p x ≡ true
    list_all_in p x [] i e = absurd i
    list_all_in p x (y ∷ ys) (inl same) e = ap p (sym same) ∙ (and_parts (p y) (list_all p ys) e).0
    list_all_in p x (y ∷ ys) (inr i) e = list_all_in p x ys i (and_parts (p y) (list_all p ys) e).1

  among_groups : (g : ℕ) → g < length groups → is_among (get_or groups g []) groups ≡ true
  among_groups g below = list_any_in (bytes_eq (get_or groups g [])) (get_or groups g []) groups (name_in groups g below) (itself (get_or groups g []))

  -- a group that does not send the message has another name than its sender
  other_sender : (sender : Option (List ℕ)) (g : ℕ) → g < length groups → is_same_sender (sender_of groups places sender) (Group g) ≡ false → not (is_named_alike sender (Some (get_or groups g []))) ≡ true
  other_sender None g below apart = refl
  other_sender (Some name) g below apart =
      ap not (false_from_ne_true _ (λ e.
      let same : name ≡ get_or groups g [] = same_bytes name (get_or groups g []) e in
      let among : is_among name groups ≡ true = ap (λ n. is_among n groups) same ∙ among_groups g below in
      let elsewhere : (place name groups == g) ≡ false = rw among at apart in
      let at : place name groups ≡ g = ap (λ n. place n groups) same ∙ place_again groups g distinct below in
      eqb-false (place name groups) g elsewhere at))

  other_name : (h g : ℕ) → h < length groups → g < length groups → (h == g) ≡ false → not (bytes_eq (get_or groups h []) (get_or groups g [])) ≡ true
  other_name h g low high other =
      ap not (false_from_ne_true _ (λ e. eqb-false h g other (one_place groups h g distinct low high (same_bytes _ _ e))))

  pub goes : (packet : Packet) → is_wait packet ≡ false → is_sent (scenario_of draft) packet ≡ true → is_same_sender (packet_sender (scenario_of draft) packet) (Group (receiver_of packet)) ≡ false
      → Goes draft (packet_sender (scenario_of draft) packet) (receiver_of packet)
  goes (Wait m) travels sent apart = absurd (false≢true (sym travels))
  goes (Multicast m g) travels sent apart =
      let parts = and_parts (is_addressed (message_at (scenario_of draft) m) g) (takes_time (scenario_of draft) (message_at (scenario_of draft) m).sender g) sent in
      let message = written_at groups places draft.messages m g parts.0 in
      let addressed : is_addressed (message_of groups places message.written) g ≡ true = rw (message.is) at parts.0 in
      let away : is_same_sender (sender_of groups places message.written.sender) (Group g) ≡ false = ap (λ (written : Message). is_same_sender written.sender (Group g)) (sym message.is) ∙ apart in
      let to = named_of groups message.written.to g addressed in
      let known = message_known message.written message.there in
      record {
        way = way_to message.written.sender (get_or groups g []);
        from = ap (λ (m : Message). m.sender) (sym message.is);
        there = place_again groups g distinct to.below;
        between = rw (all_groups, all_places) (way_between groups places message.written.sender (get_or groups g []) known (name_in groups g to.below));
        carried = list_any_in (carries (way_to message.written.sender (get_or groups g []))) message.written draft.messages message.there
            (rw (other_sender message.written.sender g to.below away, to.among, alike_itself message.written.sender) refl);
      }
  goes (Propose m h g) travels sent apart =
      let parts = and_parts (is_addressed (message_at (scenario_of draft) m) h && is_addressed (message_at (scenario_of draft) m) g) (stamp_takes_time (scenario_of draft) h g) sent in
      let both = and_parts (is_addressed (message_at (scenario_of draft) m) h) (is_addressed (message_at (scenario_of draft) m) g) parts.0 in
      let message = written_at groups places draft.messages m h both.0 in
      let by : is_addressed (message_of groups places message.written) h ≡ true = rw (message.is) at both.0 in
      let to : is_addressed (message_of groups places message.written) g ≡ true = rw (message.is) at both.1 in
      let sender = named_of groups message.written.to h by in
      let receiver = named_of groups message.written.to g to in
      let among = among_groups h sender.below in
      record {
        way = way_to (Some (get_or groups h [])) (get_or groups g []);
        from = rw among (ap (λ n. Group n) (place_again groups h distinct sender.below));
        there = place_again groups g distinct receiver.below;
        between = rw (all_groups, all_places) (way_between groups places (Some (get_or groups h [])) (get_or groups g []) (rw among refl) (name_in groups g receiver.below));
        carried = list_any_in (carries (way_to (Some (get_or groups h [])) (get_or groups g []))) message.written draft.messages message.there
            (rw (other_name h g sender.below receiver.below apart, receiver.among) (or_right (is_named_alike (Some (get_or groups h [])) message.written.sender) (is_among (get_or groups h []) message.written.to) sender.among));
      }
