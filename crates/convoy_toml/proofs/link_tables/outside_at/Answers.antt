use Rattle.toml.proofs.Views.{table_get}
use Rattle.convoy_toml.specs.Shares.{outside_word}
use Rattle.convoy_toml.proofs.link_tables.outside_at.Goals as goal

pub returns : goal.returns
returns c = table_get c.get.result outside_word c.args.table.now.entries c.get.ensures.value
