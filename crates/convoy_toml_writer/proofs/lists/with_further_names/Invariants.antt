use Rattle.std.proofs.Common.{◌≡◌, ◌++◌, take}
use Rattle.std.specs.List.{flat_map}
use Rattle.std.specs.Prelude.{string_bytes}
use Rattle.convoy_toml_writer.specs.Text.{further, quoted}
use Rattle.convoy_toml_writer.proofs.lists.with_further_names.Given as goal

abbrev pub invariant-loop-name : goal.invariant-loop-name
invariant-loop-name l = string_bytes l.text ≡ string_bytes l.fn.text ++ flat_map (λ name. further (quoted name)) (take l.name-index l.names)
