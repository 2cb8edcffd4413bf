use Rattle.std.proofs.Common.{◌≡◌, ◌++◌, decimal, take}
use Rattle.std.specs.List.{flat_map}
use Rattle.std.specs.Prelude.{string_bytes}
use Rattle.convoy_toml_writer.specs.Text.{further}
use Rattle.convoy_toml_writer.proofs.lists.with_further_numbers.Given as goal

abbrev pub invariant-loop-number : goal.invariant-loop-number
invariant-loop-number l = string_bytes l.text ≡ string_bytes l.fn.text ++ flat_map (λ number. further (decimal number)) (take l.number-index l.numbers)
