use Rattle.std.proofs.Common.{false}
use Rattle.json.specs.Spaced.{print_spaced}
use Rattle.convoy_tables.proofs.JsonAgain.{array_again, spaced, tokens_again}
use Rattle.convoy_tables.proofs.table_laws.json_is_read_back.Goals as goal

pub returns : goal.returns
returns c table texts = (print_spaced false (spaced table), array_again table, tokens_again table texts)
