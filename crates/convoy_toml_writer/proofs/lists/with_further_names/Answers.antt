use Rattle.std.specs.Prelude.{string_bytes}
use Rattle.convoy_toml_writer.specs.Text.{further, quoted}
use Rattle.convoy_toml_writer.proofs.Pieces.{in_map}
use Rattle.convoy_toml_writer.proofs.lists.with_further_names.Goals as goal

pub returns : goal.returns
returns c =
    in_map further quoted c.args.names.now c.loop-name.name-index (string_bytes c.args.text) (string_bytes c.loop-name.text) c.loop-name-test.false c.loop-name.invariant
