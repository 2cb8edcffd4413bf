use Rattle.std.proofs.Common.{◌∙◌, ap}
use Rattle.toml.proofs.Views.{table_get}
use Rattle.toml.specs.Data.{get_member}
use Rattle.toml.specs.View.{table_view}
use Rattle.convoy_toml.proofs.keys.value_at.Goals as goal

pub returns : goal.returns
returns c =
    let entries = c.args.table.now.entries in
    table_get c.get.result c.word.result.now entries c.get.ensures.value
    ∙ ap (λ key. get_member key (table_view c.args.table.now)) c.word.ensures
