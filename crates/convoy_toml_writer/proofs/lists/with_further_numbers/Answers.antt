use Rattle.std.proofs.Common.{decimal}
use Rattle.std.specs.Prelude.{string_bytes}
use Rattle.convoy_toml_writer.specs.Text.{further}
use Rattle.convoy_toml_writer.proofs.Pieces.{in_map}
use Rattle.convoy_toml_writer.proofs.lists.with_further_numbers.Goals as goal

pub returns : goal.returns
returns c =
    in_map further decimal c.args.numbers.now c.loop-number.number-index (string_bytes c.args.text) (string_bytes c.loop-number.text) c.loop-number-test.false c.loop-number.invariant
