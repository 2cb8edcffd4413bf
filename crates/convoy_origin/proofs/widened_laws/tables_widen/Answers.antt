use Rattle.convoy_origin.proofs.WidenedTables.{tables_widen}
use Rattle.convoy_origin.proofs.widened_laws.tables_widen.Goals as goal

pub returns : goal.returns
returns c = tables_widen
