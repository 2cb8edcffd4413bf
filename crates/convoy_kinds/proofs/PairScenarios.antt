-- The scenario of two kinds is well formed.
use Rattle.std.proofs.Common.{All, ◌≡◌, ℕ, ◌<◌, ◌≤◌, ◌==◌, zero, suc, Bool, true, false, cond, inl, inr, List, [], ◌∷◌, length, codes, refl, ap, ◌∙◌, arith}
use Rattle.std.proofs.lemmas.Bool.{cases_Bool, cond-true, cond-false}
use Rattle.std.proofs.lemmas.Slice.Eq.{bytes_eq-Decides}
use Rattle.std.specs.List.{IsDistinct}
use Rattle.std.specs.Str.{bytes_eq}
use Rattle.convoy_draft.specs.Names.{is_name}
use Rattle.convoy_scenario.specs.Room.{HasRoom}
use Rattle.convoy_scenario.specs.Scenario.{Message, Scenario, GoesTo, message_at}
use Rattle.convoy_scenario.specs.WellFormed.{IsMulticast, IsScenario}
use Rattle.convoy_kinds.specs.Kinds.{IsKind, IsKinds, Kinds, all_kinds, kind_at, kind_name, named, no_kind}
use Rattle.convoy_kinds.specs.Pairs.{name_beside, second_name}
use Rattle.convoy_kinds.specs.KindLaws.{PairsAreScenarios}
use Rattle.convoy_kinds.proofs.AllKinds.{kind_goes}

-- a name beside another is a name, and another one
beside_is_name : (name : List ℕ) → is_name (name_beside name) ≡ true
beside_is_name name = by_test (bytes_eq name (codes "other")) where
  by_test : (b : Bool) → is_name (cond b (codes "second") (codes "other")) ≡ true
  by_test true = refl
  by_test false = refl

beside_differs : (name : List ℕ) → bytes_eq name (name_beside name) ≡ false
beside_differs name = elim (cases_Bool (bytes_eq name (codes "other"))) [
  | inl is ↦
      let same : name ≡ codes "other" = (bytes_eq-Decides name (codes "other")).0 is in
      ap (bytes_eq name) (cond-true _ (codes "second") (codes "other") is) ∙ ap (λ n. bytes_eq n (codes "second")) same
  | inr is ↦ ap (bytes_eq name) (cond-false _ (codes "second") (codes "other") is) ∙ is
]

second_is_name : (first second : List ℕ) → is_name second ≡ true → is_name (second_name first second) ≡ true
second_is_name first second good = by_test (bytes_eq first second) where
  by_test : (b : Bool) → is_name (cond b (name_beside first) second) ≡ true
  by_test true = beside_is_name first
  by_test false = good

second_differs : (first second : List ℕ) → bytes_eq first (second_name first second) ≡ false
second_differs first second = elim (cases_Bool (bytes_eq first second)) [
  | inl is ↦ ap (bytes_eq first) (cond-true _ (name_beside first) second is) ∙ beside_differs first
  | inr is ↦ ap (bytes_eq first) (cond-false _ (name_beside first) second is) ∙ is
]

module _ (kinds : Kinds) (well : IsKinds kinds) where
  kind_is : (k : ℕ) → k < length kinds.kinds → IsKind (length kinds.tables) (length kinds.setting.groups) (length kinds.setting.places) (kind_at kinds k)
  kind_is k l = well.known k no_kind l

  name_is : (k : ℕ) → k < length kinds.kinds → is_name (kind_name kinds k) ≡ true
  name_is k l = well.names (kind_at kinds k).table [] (kind_is k l).table

  formed : (k : ℕ) (name : List ℕ) → k < length kinds.kinds → is_name name ≡ true → IsMulticast (length kinds.setting.groups) (length kinds.setting.places) (named name (kind_at kinds k))
  formed k name l good =
      let kind = kind_is k l in
      record {
        name = good;
        sender = kind.sender;
        destinations = kind.destinations;
        ascending = kind.ascending;
        known = kind.known;
        at = omega arith;
        wait = omega arith;
      }

  module _ (k l g : ℕ) (first_known : k < length kinds.kinds) (second_known : l < length kinds.kinds) (goes : GoesTo (all_kinds kinds) k g) where
    abbrev first : Message
    first = named (kind_name kinds k) (kind_at kinds k)

    abbrev second : Message
    second = named (second_name (kind_name kinds k) (kind_name kinds l)) (kind_at kinds l)

    abbrev with_other : Bool → Scenario
    with_other b = record kinds.setting { multicasts = first ∷ cond b [] (second ∷ []); target_message = 0; target_group = g }

    few : (b : Bool) → length (with_other b).multicasts ≤ 16
    few true = omega arith
    few false = omega arith

    all_formed : (b : Bool) → All (IsMulticast (length kinds.setting.groups) (length kinds.setting.places)) (with_other b).multicasts
    all_formed b zero other within = formed k _ first_known (name_is k first_known)
    all_formed true (suc n) other within = absurd (omega arith)
    all_formed false (suc zero) other within = formed l _ second_known (second_is_name (kind_name kinds k) (kind_name kinds l) (name_is l second_known))
    all_formed false (suc (suc n)) other within = absurd (omega arith)

    differ : (b : Bool) → IsDistinct (λ (a c : Message). bytes_eq a.name c.name) (with_other b).multicasts
    unfolding IsDistinct
    differ true = (tt, tt)
    differ false = ((second_differs (kind_name kinds k) (kind_name kinds l), tt), (tt, tt))

    none_waits : (b : Bool) (n : ℕ) → (message_at (with_other b) n).longest_wait ≡ 0
    none_waits b zero = refl
    none_waits true (suc n) = refl
    none_waits false (suc zero) = refl
    none_waits false (suc (suc n)) = refl

    room : (b : Bool) → HasRoom (with_other b)
    room b = record {
      last = omega arith;
      others = λ n apart within. let none = none_waits b n in omega arith;
    }

    scenario : (b : Bool) → IsScenario (with_other b)
    scenario b = record {
      delay_low = well.setting.delay_low;
      delay_high = well.setting.delay_high;
      delay_whole = well.setting.delay_whole;
      tick = well.setting.tick;
      groups_low = well.setting.groups_low;
      groups_high = well.setting.groups_high;
      places_high = well.setting.places_high;
      multicasts_low = omega arith;
      multicasts_high = few b;
      group_names = well.setting.group_names;
      group_names_differ = well.setting.group_names_differ;
      place_names = well.setting.place_names;
      place_names_differ = well.setting.place_names_differ;
      places_apart = well.setting.places_apart;
      message_names_differ = differ b;
      links = well.setting.links;
      ascending = well.setting.ascending;
      messages = all_formed b;
      target = omega arith;
      addressed = kind_goes kinds k g goes;
      room = room b;
    }

pub pairs_formed : PairsAreScenarios
pairs_formed kinds well k l g first second goes = scenario kinds well k l g first second goes (k == l)
