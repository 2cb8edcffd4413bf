-- The group at which an event is: the message with that event goes there.
use Rattle.std.proofs.Common.{◌≡◌, ℕ, ◌<◌, Bool, true, nat_le, List, [], ◌∷◌, length, get_or, Option, Some, None, inl, inr, sym, ap, ◌∙◌}
use Rattle.std.specs.List.{list_all, list_any}
use Rattle.std.specs.Str.{bytes_eq}
use Rattle.std.proofs.lemmas.Bool.{and_parts, false≢true, or_cases, or_left, or_right}
use Rattle.std.proofs.lemmas.Slice.Eq.{bytes_eq-Decides}
use Rattle.convoy_draft.specs.Checks.{is_among}
use Rattle.convoy_scenario.specs.Numbering.{place}
use Rattle.convoy_scenario.proofs.PlaceLemmas.{name_at_place, place_passes, place_within}
use Rattle.convoy_causes.specs.declared.event.Event.{Event}
use Rattle.convoy_causes.specs.declared.event.Event.TheVariants.{Issue, Arrival, Commit, Delivery}
use Rattle.convoy_workflows.specs.Rules.{comes_to, group_of_event}

any_more : {X : Type 0} (p q : X → Bool) (xs : List X) → ((x : X) → p x ≡ true → q x ≡ true) → list_any p xs ≡ true → list_any q xs ≡ true
any_more p q [] more h = absurd (false≢true h)
any_more p q (x ∷ xs) more h = elim (or_cases (p x) (list_any p xs) h) [
  | inl here ↦ or_left (q x) (list_any q xs) (more x here)
  | inr later ↦ or_right (q x) (list_any q xs) (any_more p q xs more later)
]

-- a name among names that are all known is known
known_among : (groups names : List (List ℕ)) (name : List ℕ) → list_all (λ n. is_among n groups) names ≡ true → is_among name names ≡ true → is_among name groups ≡ true
known_among groups [] name known h = absurd (false≢true h)
known_among groups (other ∷ names) name known h =
    let parts = and_parts (is_among other groups) (list_all (λ n. is_among n groups) names) known in
    elim (or_cases (bytes_eq name other) (is_among name names) h) [
      | inl same ↦ ap (λ (n : List ℕ). is_among n groups) ((bytes_eq-Decides name other).0 same) ∙ parts.0
      | inr later ↦ known_among groups names name parts.1 later
    ]

-- some group is among names that are all known
some_group : (groups names : List (List ℕ)) → list_all (λ n. is_among n groups) names ≡ true → nat_le 1 (length names) ≡ true → list_any (λ group. is_among group names) groups ≡ true
some_group groups [] known some = absurd (false≢true some)
some_group groups (name ∷ names) known some =
    let here = (and_parts (is_among name groups) (list_all (λ n. is_among n groups) names) known).0 in
    any_more (bytes_eq name) (λ group. is_among group (name ∷ names)) groups
    (λ group same. or_left (bytes_eq group name) (is_among group names) ((bytes_eq-Decides group name).1 (sym ((bytes_eq-Decides name group).0 same)))) here

pub record IsPlace (groups to : List (List ℕ)) (g : ℕ) : Type 0 where
  pub known : g < length groups
  pub among : is_among (get_or groups g []) to ≡ true

at_sender : (groups to : List (List ℕ)) (name : List ℕ) → is_among name to ≡ true → list_all (λ n. is_among n groups) to ≡ true → IsPlace groups to (place name groups)
at_sender groups to name there known =
    let group = known_among groups to name known there in
    record {
      known = place_within (bytes_eq name) groups group;
      among = ap (λ (n : List ℕ). is_among n to) (name_at_place name groups group) ∙ there;
    }

pub place_of_event : (event : Event) (groups to : List (List ℕ)) (sender : Option (List ℕ)) → comes_to event to sender ≡ true → list_all (λ n. is_among n groups) to ≡ true → nat_le 1 (length to) ≡ true
    → IsPlace groups to (group_of_event event groups to sender)
place_of_event Issue groups to sender comes known some =
    let group = some_group groups to known some in
    record {
      known = place_within (λ g. is_among g to) groups group;
      among = place_passes (λ g. is_among g to) groups [] group;
    }
place_of_event Arrival groups to None comes known some = absurd (false≢true comes)
place_of_event Arrival groups to (Some name) comes known some = at_sender groups to name comes known
place_of_event Commit groups to None comes known some = absurd (false≢true comes)
place_of_event Commit groups to (Some name) comes known some = at_sender groups to name comes known
place_of_event Delivery groups to None comes known some = absurd (false≢true comes)
place_of_event Delivery groups to (Some name) comes known some = at_sender groups to name comes known
