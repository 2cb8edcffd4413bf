use Rattle.std.proofs.Common.{◌∷◌}
use Rattle.convoy_tables.proofs.CsvAgain.{rows_again}
use Rattle.convoy_tables.proofs.table_laws.csv_is_read_back.Goals as goal

pub returns : goal.returns
returns c table = rows_again (table.columns ∷ table.rows)
