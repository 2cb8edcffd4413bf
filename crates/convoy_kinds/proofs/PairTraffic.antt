-- Traffic of two kinds is traffic of all.
use Rattle.std.proofs.Common.{ℕ, ◌<◌, ◌==◌, zero, suc, Bool, true, false, cond, List, [], ◌∷◌, length, get_or, sym, ap, ◌∙◌, arith}
use Rattle.std.proofs.lemmas.List.{length-map}
use Rattle.convoy_scenario.specs.Scenario.{Message, no_message}
use Rattle.convoy_ceiling.specs.Ceiling.{IsOfKind, IsOfSomeKind}
use Rattle.convoy_kinds.specs.Kinds.{Kinds, all_kinds, kind_at, kind_name, named}
use Rattle.convoy_kinds.specs.Pairs.{second_name}
use Rattle.convoy_kinds.specs.KindLaws.{TrafficOfPairsIsOfKinds}
use Rattle.convoy_kinds.proofs.AllKinds.{message_is}

-- a message of a kind, under whatever name, is of that kind
of_number : (kinds : Kinds) (k : ℕ) (name : List ℕ) (message : Message) → k < length kinds.kinds → IsOfKind (named name (kind_at kinds k)) message → IsOfSomeKind (all_kinds kinds) message
of_number kinds k name message l is =
    let same = length-map kinds.kinds (named []) in
    let at = message_is kinds k in (
      k,
      omega arith,
      record {
        sender = is.sender ∙ sym (ap (λ (m : Message). m.sender) at);
        destinations = is.destinations ∙ sym (ap (λ (m : Message). m.destinations) at);
      },
    )

of_pair : (kinds : Kinds) (k l : ℕ) (b : Bool) (message : Message) → k < length kinds.kinds → l < length kinds.kinds → (n : ℕ)
    → n < length (named (kind_name kinds k) (kind_at kinds k) ∷ cond b [] (named (second_name (kind_name kinds k) (kind_name kinds l)) (kind_at kinds l) ∷ []))
    → IsOfKind (get_or (named (kind_name kinds k) (kind_at kinds k) ∷ cond b [] (named (second_name (kind_name kinds k) (kind_name kinds l)) (kind_at kinds l) ∷ [])) n no_message) message
    → IsOfSomeKind (all_kinds kinds) message
of_pair kinds k l b message first second zero within is = of_number kinds k _ message first is
of_pair kinds k l true message first second (suc n) within is = absurd (omega arith)
of_pair kinds k l false message first second (suc zero) within is = of_number kinds l _ message second is
of_pair kinds k l false message first second (suc (suc n)) within is = absurd (omega arith)

pub of_kinds : TrafficOfPairsIsOfKinds
of_kinds kinds k l g traffic first second is = record {
  groups = is.groups;
  delay = is.delay;
  links = is.links;
  kinds = λ m other within.
      let kind = is.kinds m other within in
      of_pair kinds k l (k == l) _ first second kind.0 kind.1 kind.2;
}
