-- The rules for a scenario hold of a draft with its groups listed in another order.
use Rattle.std.proofs.Common.{◌≡◌, ℕ, zero, suc, ◌&&◌, ◌||◌, not, Bool, true, false, nat_le, drop, get_or, map, List, [], ◌∷◌, inl, inr, Option, Some, None, Ok, refl, sym, ap, ◌∙◌, arith}
use Rattle.std.specs.List.{list_all, AllByRecursion, IsDistinct}
use Rattle.std.specs.List.Sorted.{IsPermutation}
use Rattle.std.specs.Str.{bytes_eq}
use Rattle.std.proofs.lemmas.Bool.{and_from, and_parts, both_ways, cases_Bool, false_from_ne_true}
use Rattle.std.proofs.lemmas.List.{length-map}
use Rattle.std.proofs.lemmas.List.Sorted.{All-permutation, IsPermutation-sym, length_permutation}
use Rattle.std.proofs.lemmas.List.Sums.{AllPass-from_list_all, list_all-from_AllPass}
use Rattle.std.proofs.lemmas.Map.Keys.{IsDistinct-IsPermutation}
use Rattle.convoy_draft.specs.Draft.{Draft, DraftLink, DraftMessage}
use Rattle.convoy_draft.specs.declared.limits.TheConstants.{MOST_GROUPS}
use Rattle.convoy_draft.specs.Names.{is_group_name}
use Rattle.convoy_draft.specs.Checks.{Check, all_differ, checks, is_among, is_count, is_known_sender, judge, knows, knows_link, places_differ, reference_checks}
use Rattle.convoy_scenario.specs.Numbering.{message_of, scenario_of}
use Rattle.convoy_scenario.specs.Room.{HasRoom}
use Rattle.convoy_scenario.specs.Scenario.{no_message}
use Rattle.convoy_scenario.proofs.GivenScenarios.{given, passed}
use Rattle.convoy_scenario.proofs.NumberedAgain.{itself, same_bytes}
use Rattle.convoy_scenario.proofs.NumberedLemmas.{all_hold, groups_distinct}
use Rattle.convoy_scenario.proofs.RoomLemmas.{room_from, room_told}
use Rattle.convoy_orders.specs.Relisted.{relisted, RelistedDraftsGiveScenarios}
use Rattle.convoy_orders.proofs.RelistedNames.{all_among, among_alike}

judged : (cs : List Check) → AllByRecursion (λ c. c.0 ≡ true) cs → judge cs ≡ Ok tt
judged [] all = refl
judged (c ∷ cs) all = rw all.0 (judged cs all.1)

all_too : {X : Type 0} (p q : X → Bool) (xs : List X) → ((x : X) → p x ≡ true → q x ≡ true) → list_all p xs ≡ true → list_all q xs ≡ true
all_too p q [] h a = refl
all_too p q (x ∷ xs) h a =
    let parts = and_parts (p x) (list_all p xs) a in
    and_from _ _ (h x parts.0) (all_too p q xs h parts.1)

none_among : (name : List ℕ) (names : List (List ℕ)) → AllByRecursion (λ other. bytes_eq name other ≡ false) names → is_among name names ≡ false
none_among name [] apart = refl
none_among name (other ∷ others) apart = rw (apart.0, none_among name others apart.1) refl

-- names that are distinct differ
all_apart : (names : List (List ℕ)) → IsDistinct bytes_eq names → all_differ names ≡ true
unfolding IsDistinct
all_apart [] distinct = refl
all_apart (name ∷ names) distinct = rw (none_among name names distinct.0, all_apart names distinct.1) refl

either_way : (a b : List ℕ) → bytes_eq a b ≡ bytes_eq b a
either_way a b = elim (cases_Bool (bytes_eq a b)) [
  | inl same ↦ let one : a ≡ b = same_bytes a b same in rw one refl
  | inr apart ↦ apart ∙ sym (false_from_ne_true _ (λ e. both_ways _ apart (rw (same_bytes b a e) (itself a))))
]

module _ (groups names : List (List ℕ)) (same : IsPermutation groups names) where
  among_same : (name : List ℕ) → is_among name names ≡ is_among name groups
  among_same = among_alike groups names (λ g l. all_among names groups (IsPermutation-sym groups names same) g [] l) (λ g l. all_among groups names same g [] l)

  among_too : (name : List ℕ) → is_among name groups ≡ true → is_among name names ≡ true
  among_too name known = among_same name ∙ known

  sender_too : (places : List (List ℕ)) (sender : Option (List ℕ)) → is_known_sender groups places sender ≡ true → is_known_sender names places sender ≡ true
  sender_too places None known = refl
  sender_too places (Some name) known = ap (λ (b : Bool). b || is_among name places) (among_same name) ∙ known

  knows_too : (places : List (List ℕ)) (message : DraftMessage) → knows groups places message ≡ true → knows names places message ≡ true
  knows_too places message known =
      let parts = and_parts (is_known_sender groups places message.sender) (list_all (λ name. is_among name groups) message.to) known in
      and_from _ _ (sender_too places message.sender parts.0) (all_too (λ name. is_among name groups) (λ name. is_among name names) message.to among_too parts.1)

  link_too : (places : List (List ℕ)) (link : DraftLink) → knows_link groups places link ≡ true → knows_link names places link ≡ true
  link_too places link known =
      let parts = and_parts (is_known_sender groups places link.sender) (is_among link.to groups) known in
      and_from _ _ (sender_too places link.sender parts.0) (among_too link.to parts.1)

  places_too : (places : List (List ℕ)) → places_differ groups places ≡ true → places_differ names places ≡ true
  places_too places differ =
      let parts = and_parts (all_differ places) (list_all (λ name. not (is_among name groups)) places) differ in
      and_from _ _ parts.0
      (all_too (λ name. not (is_among name groups)) (λ name. not (is_among name names)) places (λ name apart. ap not (among_same name) ∙ apart) parts.1)

  are_names : list_all is_group_name groups ≡ true → list_all is_group_name names ≡ true
  are_names are =
      list_all-from_AllPass is_group_name names
      (All-permutation (λ name. is_group_name name ≡ true) groups names same (AllPass-from_list_all is_group_name groups are))

  differ_too : all_differ groups ≡ true → all_differ names ≡ true
  differ_too differ = all_apart names (IsDistinct-IsPermutation bytes_eq either_way groups names same (groups_distinct groups differ))

rules_hold : (draft : Draft) (names : List (List ℕ)) → IsPermutation draft.groups names → judge (checks draft) ≡ Ok tt → judge (checks (relisted names draft)) ≡ Ok tt
rules_hold draft names same h =
    let limits = all_hold (checks draft) h in
    let named = limits.1.1.1.1.1.1.1.1 in
    let known = named.1.1.1.1.1.1.1 in
    let count : is_count MOST_GROUPS names ≡ true = ap (λ n. nat_le 1 n && nat_le n MOST_GROUPS) (length_permutation draft.groups names same) ∙ limits.1.0 in
    let differ = differ_too draft.groups names same named.1.1.1.0 in
    let apart = places_too draft.groups names same draft.places named.1.1.1.1.0 in
    let names_are = are_names draft.groups names same named.0 in
    let messages = all_too (knows draft.groups draft.places) (knows names draft.places) draft.messages (knows_too draft.groups names same draft.places) known.0 in
    let target = among_too draft.groups names same draft.target_group known.1.0 in
    let links = all_too (knows_link draft.groups draft.places) (knows_link names draft.places) draft.links (link_too draft.groups names same draft.places) known.1.1.0 in
    let others = judged (drop 3 (reference_checks draft)) known.1.1.1 in
    rw (limits.0, count, limits.1.1.0, limits.1.1.1.0, limits.1.1.1.1.0, limits.1.1.1.1.1.0, limits.1.1.1.1.1.1.0, limits.1.1.1.1.1.1.1.0)
    (rw (names_are, named.1.0, named.1.1.0, differ, apart, named.1.1.1.1.1.0, named.1.1.1.1.1.1.0, messages, target, links) others)

-- messages are issued at the same ticks, whatever the order of the groups
times_too : (groups names places : List (List ℕ)) (messages : List DraftMessage) (m : ℕ)
    → ((get_or (map (message_of names places) messages) m no_message).at ≡ (get_or (map (message_of groups places) messages) m no_message).at)
    × ((get_or (map (message_of names places) messages) m no_message).longest_wait ≡ (get_or (map (message_of groups places) messages) m no_message).longest_wait)
times_too groups names places [] m = (refl, refl)
times_too groups names places (message ∷ messages) zero = (refl, refl)
times_too groups names places (message ∷ messages) (suc m) = times_too groups names places messages m

-- so the target has as much room
room_too : (draft : Draft) (names : List (List ℕ)) → HasRoom (scenario_of draft) → HasRoom (scenario_of (relisted names draft))
room_too draft names room =
    let at = times_too draft.groups names draft.places draft.messages (scenario_of draft).target_message in
    let last = room.last in
    record {
      last = omega (arith, at.0, at.1, last);
      others = λ m d l.
          let here = times_too draft.groups names draft.places draft.messages m in
          let most = room.others m d (omega (arith, l, length-map draft.messages (message_of names draft.places), length-map draft.messages (message_of draft.groups draft.places))) in
          omega (arith, here.1, at.1, most);
    }

pub drafts_too : RelistedDraftsGiveScenarios
drafts_too draft names plan is same =
    let mine = passed (judge (checks draft)) (scenario_of draft) plan is in
    given (relisted names draft) (rules_hold draft names same mine.0)
    (room_from (scenario_of (relisted names draft)) (room_too draft names (room_told (scenario_of draft) mine.2)))
