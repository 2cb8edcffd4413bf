-- The kinds by number, as messages of one record.
use Rattle.std.proofs.Common.{◌≡◌, ℕ, ◌==◌, inl, inr, [], length, map, sym, ap, subst, ◌∙◌, IsTrue, arith}
use Rattle.std.proofs.lemmas.Bool.{cases_lt}
use Rattle.std.proofs.lemmas.List.{get_or-map, get_or_past, length-map}
use Rattle.std.proofs.lemmas.List.Elements.{All-map}
use Rattle.std.specs.List.{list_any}
use Rattle.convoy_scenario.specs.Scenario.{Message, GoesTo, is_addressed, message_at, no_message}
use Rattle.convoy_sim.specs.Traffic.{GoesToGroups, IsTraffic}
use Rattle.convoy_kinds.specs.Kinds.{IsKinds, Kinds, all_kinds, kind_at, named, no_kind}

-- the message of a number is that of the kind of that number
pub message_is : (kinds : Kinds) (k : ℕ) → message_at (all_kinds kinds) k ≡ named [] (kind_at kinds k)
message_is kinds k = elim (cases_lt k (length kinds.kinds)) [
  | inl l ↦ get_or-map (named []) kinds.kinds k no_kind no_message l
  | inr l ↦
      let same = length-map kinds.kinds (named []) in
      get_or_past (map (named []) kinds.kinds) k no_message (omega arith) ∙ sym (ap (named []) (get_or_past kinds.kinds k no_kind l))
]

-- so it goes where the kind goes
pub kind_goes : (kinds : Kinds) (k g : ℕ) → GoesTo (all_kinds kinds) k g → IsTrue (list_any (λ h. h == g) (kind_at kinds k).destinations)
kind_goes kinds k g goes = subst (λ (m : Message). IsTrue (is_addressed m g)) (message_is kinds k) goes

-- each goes to groups
pub are_traffic : (kinds : Kinds) → IsKinds kinds → IsTraffic (all_kinds kinds)
are_traffic kinds well =
    All-map (GoesToGroups (length kinds.setting.groups)) (named []) kinds.kinds
    (λ k other l.
    let kind = well.known k other l in
    record { destinations = kind.destinations; ascending = kind.ascending; known = kind.known })
