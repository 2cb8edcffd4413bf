use Rattle.convoy_times.proofs.Telling.{told_decimal}
use Rattle.convoy_times.proofs.time_laws.times_are_decimals.Goals as goal

pub returns : goal.returns
returns c = told_decimal
