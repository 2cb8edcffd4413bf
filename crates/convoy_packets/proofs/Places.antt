-- Packets, their places in a list and their slots.
use Rattle.std.proofs.Common.{◌≡◌, ℕ, ◌+◌, ◌<◌, Bool, true, false, cond, ◌&&◌, List, [], ◌∷◌, ◌++◌, length, get_or, take, set, Option, Some, None, sym, ap, ◌∙◌, arith, refl}
use Rattle.std.specs.Option.{option_or, is_none}
use Rattle.std.specs.List.{AllPairs, slice_get, position_or_len}
use Rattle.std.proofs.lemmas.Option.{slice_get_within, get_or_from_slice_get, slice_get-get_or}
use Rattle.std.proofs.lemmas.List.Quantifiers.{position-Some}
use Rattle.std.proofs.lemmas.List.Sums.{position_or_len_is}
use Rattle.std.proofs.lemmas.Bool.{lt-ltb, false≢true, false_from_ne_true, cond_both}
use Rattle.std.proofs.lemmas.List.{length-set, get_or-set_same, get_or-set_other, length-take-le, take_more}
use Rattle.std.proofs.lemmas.Bool.Decides.{nat_tests}
use Rattle.convoy_packets.specs.declared.packet.Packet.{Packet}
use Rattle.convoy_packets.specs.declared.packet.Packet.TheVariants.{Wait, Multicast, Propose}
use Rattle.convoy_packets.specs.Packets.{is_packet, place_of}
use Rattle.convoy_packets.specs.declared.slots.TheConstants.{SLOT_COUNT}
use Rattle.convoy_packets.specs.Slots.{is_within_limits, slot_number, entry_of, with_place, HoldPlaces, HaveSlots}
use Rattle.convoy_packets.proofs.Lists.{position_push, position_none}

pub same_packet : (p q : Packet) → is_packet p q ≡ true → p ≡ q
same_packet (Wait m) (Wait n) e = grind (arith, nat_tests)
same_packet (Wait m) (Multicast n k) e = absurd (false≢true e)
same_packet (Wait m) (Propose n i k) e = absurd (false≢true e)
same_packet (Multicast m g) (Wait n) e = absurd (false≢true e)
same_packet (Propose m h g) (Wait n) e = absurd (false≢true e)
same_packet (Multicast m g) (Multicast n k) e = grind (arith, nat_tests)
same_packet (Multicast m g) (Propose n i k) e = absurd (false≢true e)
same_packet (Propose m h g) (Multicast n k) e = absurd (false≢true e)
same_packet (Propose m h g) (Propose n i k) e = grind (arith, nat_tests)

pub is_packet_itself : (p : Packet) → is_packet p p ≡ true
is_packet_itself (Wait m) = grind (arith, nat_tests)
is_packet_itself (Multicast m g) = grind (arith, nat_tests)
is_packet_itself (Propose m h g) = grind (arith, nat_tests)

-- two packets within the limits have one slot only if they are the same
pub same_slot : (p q : Packet) → is_within_limits p ≡ true → is_within_limits q ≡ true → slot_number p ≡ slot_number q → p ≡ q
same_slot (Wait m) (Wait n) a b e = grind (arith, nat_tests)
same_slot (Wait m) (Multicast n k) a b e = grind (arith, nat_tests)
same_slot (Wait m) (Propose n i k) a b e = grind (arith, nat_tests)
same_slot (Multicast m g) (Wait n) a b e = grind (arith, nat_tests)
same_slot (Propose m h g) (Wait n) a b e = grind (arith, nat_tests)
same_slot (Multicast m g) (Multicast n k) a b e = grind (arith, nat_tests)
same_slot (Multicast m g) (Propose n i k) a b e = grind (arith, nat_tests)
same_slot (Propose m h g) (Multicast n k) a b e = grind (arith, nat_tests)
same_slot (Propose m h g) (Propose n i k) a b e = grind (arith, nat_tests)

pub place_of_push : (p : Packet) (packets : List Packet) (q : Packet) → place_of p (packets ++ q ∷ []) ≡ option_or (place_of p packets) (cond (is_packet p q) (Some (length packets)) None)
place_of_push p packets q = position_push (is_packet p) packets q

pub length-with_place : (slots : List (Option ℕ)) (q : Packet) (n : ℕ) → length (with_place slots q n) ≡ length slots
length-with_place slots q n =
    cond_both (is_within_limits q && is_none (get_or slots (slot_number q) None)) (set slots (slot_number q) (Some n)) slots
    (λ xs. length xs ≡ length slots) (λ _. length-set slots (slot_number q) (Some n)) (λ _. refl)

-- a packet that is not within the limits is in no list that is
pub no_place : (p : Packet) (packets : List Packet) → HaveSlots packets → is_within_limits p ≡ false → place_of p packets ≡ None
no_place p packets known out =
    position_none (is_packet p) packets
    (λ k d h. false_from_ne_true (is_packet p (get_or packets k d))
    (λ e. let same = same_packet p (get_or packets k d) e in
    absurd (false≢true (sym out ∙ ap is_within_limits same ∙ known k d h))))

slot_within : (p : Packet) → is_within_limits p ≡ true → slot_number p < SLOT_COUNT
slot_within (Wait m) a = grind (arith, nat_tests)
slot_within (Multicast m g) a = grind (arith, nat_tests)
slot_within (Propose m h g) a = grind (arith, nat_tests)

option_or-none : (o : Option ℕ) → option_or o None ≡ o
option_or-none None = refl
option_or-none (Some n) = refl

written : (slots : List (Option ℕ)) (j n : ℕ) (o : Option ℕ) → get_or slots j None ≡ o → j < length slots → get_or (cond (is_none o) (set slots j (Some n)) slots) j None ≡ option_or o (Some n)
written slots j n None e h = get_or-set_same slots j (Some n) None h
written slots j n (Some x) e h = e

kept : (slots : List (Option ℕ)) (i j n : ℕ) (o : Option ℕ) → (i ≡ j → ⊥) → get_or (cond (is_none o) (set slots j (Some n)) slots) i None ≡ option_or (get_or slots i None) None
kept slots i j n None h = get_or-set_other slots j i (Some n) None h ∙ sym (option_or-none (get_or slots i None))
kept slots i j n (Some x) h = sym (option_or-none (get_or slots i None))

-- what a packet's slot holds once the place of a packet is written
entry_after : (slots : List (Option ℕ)) (p q : Packet) (n : ℕ) (same known : Bool) → is_packet p q ≡ same → is_within_limits q ≡ known → length slots ≡ SLOT_COUNT → is_within_limits p ≡ true → get_or (with_place slots q n) (slot_number p) None ≡ option_or (get_or slots (slot_number p) None) (cond same (Some n) None)
entry_after slots p q n true true e b all a =
    let here : slot_number q < length slots = rw all (slot_within q b) in
    rw (b, same_packet p q e) (written slots (slot_number q) n (get_or slots (slot_number q) None) refl here)
entry_after slots p q n false true e b all a =
    rw b
    (kept slots (slot_number p) (slot_number q) n (get_or slots (slot_number q) None)
    (λ s. false≢true (sym e ∙ rw (same_slot p q a b s) (is_packet_itself q))))
entry_after slots p q n true false e b all a = absurd (false≢true (sym b ∙ ap is_within_limits (sym (same_packet p q e)) ∙ a))
entry_after slots p q n false false e b all a = rw b (sym (option_or-none (get_or slots (slot_number p) None)))

pub HoldPlaces-push : (slots : List (Option ℕ)) (packets : List Packet) (q : Packet) → HoldPlaces slots packets → HoldPlaces (with_place slots q (length packets)) (packets ++ q ∷ [])
HoldPlaces-push slots packets q holds = record {
  all = length-with_place slots q (length packets) ∙ holds.all;
  places = λ p a. entry_after slots p q (length packets) (is_packet p q) (is_within_limits q) refl refl holds.all a
      ∙ ap (λ o. option_or o (cond (is_packet p q) (Some (length packets)) None)) (holds.places p a)
      ∙ sym (place_of_push p packets q);
}

pub HoldPlaces-more : (slots : List (Option ℕ)) (packets : List Packet) (i : ℕ) (d : Packet) → i < length packets → HoldPlaces slots (take i packets) → HoldPlaces (with_place slots (get_or packets i d) i) (take (i + 1) packets)
HoldPlaces-more slots packets i d h holds =
    let long : length (take i packets) ≡ i = length-take-le i packets (omega arith) in
    let next = HoldPlaces-push slots (take i packets) (get_or packets i d) holds in
    rw (take_more packets i d h) (rw long at next)

-- a look-up by slot gives the place
pub entry_is_place : (slots : List (Option ℕ)) (packets : List Packet) (p : Packet) → HaveSlots packets → HoldPlaces slots packets → entry_of slots p ≡ place_of p packets
entry_is_place slots packets p known held = by_cases (is_within_limits p) refl where
  by_cases : (b : Bool) → is_within_limits p ≡ b → entry_of slots p ≡ place_of p packets
  by_cases true e = rw e (held.places p e)
  by_cases false e = rw e (sym (no_place p packets known e))

-- in a list whose packets differ, each is found where it stands
pub place_where_it_stands : (packets : List Packet) (i : ℕ) (p : Packet) → AllPairs (λ a b. a ≡ b → ⊥) packets → slice_get packets i ≡ Some p → place_of p packets ≡ Some i
place_where_it_stands packets i p differ at =
    let here = slice_get_within packets i p at in
    let read = get_or_from_slice_get packets i p p at in
    let first : position_or_len (is_packet p) packets ≡ i =
    position_or_len_is (is_packet p) packets i p (omega arith)
    (λ k h. false_from_ne_true (is_packet p (get_or packets k p))
    (λ e. differ k i p h here (sym (same_packet p (get_or packets k p) e) ∙ sym read)))
    (λ _. rw read (is_packet_itself p)) in
    rw (first, lt-ltb i (length packets) here) refl

pub stands_where_found : (packets : List Packet) (i : ℕ) (p : Packet) → place_of p packets ≡ Some i → slice_get packets i ≡ Some p
stands_where_found packets i p found =
    let at = position-Some (is_packet p) packets i p found in
    slice_get-get_or packets i p at.0 ∙ ap Some (sym (same_packet p (get_or packets i p) at.1))
