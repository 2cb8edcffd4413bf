-- Two kinds of messages at a time: a scenario of one message of each.
use Rattle.std.specs.Prelude.{ℕ, ◌==◌, if◌then◌else◌, List, [], ◌∷◌, codes}
use Rattle.std.specs.Str.{bytes_eq}
use Rattle.convoy_scenario.specs.Scenario.{Message, Scenario}
use Rattle.convoy_kinds.specs.Kinds.{Kinds, kind_at, kind_name, named}

-- a name beside this one
abbrev pub name_beside : List ℕ → List ℕ
name_beside name = if bytes_eq name (codes "other") then codes "second" else codes "other"

-- the name of the second of two messages: that of its table, unless the first has it
abbrev pub second_name : List ℕ → List ℕ → List ℕ
second_name first second = if bytes_eq first second then name_beside first else second

-- a message of kind l, unless that is kind k
abbrev pub other_messages : Kinds → ℕ → ℕ → List Message
other_messages kinds k l = if k == l then [] else (named (second_name (kind_name kinds k) (kind_name kinds l)) (kind_at kinds l) ∷ [])

-- a scenario of a message of kind k, the target at group g, and one of kind l, where that is another
abbrev pub pair_of : Kinds → ℕ → ℕ → ℕ → Scenario
pair_of kinds k l g = record kinds.setting {
  multicasts = named (kind_name kinds k) (kind_at kinds k) ∷ other_messages kinds k l;
  target_message = 0;
  target_group = g;
}
