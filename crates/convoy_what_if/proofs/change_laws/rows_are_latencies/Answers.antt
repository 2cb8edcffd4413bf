use Rattle.convoy_what_if.proofs.Numbers.{rows_are_latencies}
use Rattle.convoy_what_if.proofs.change_laws.rows_are_latencies.Goals as goal

pub returns : goal.returns
returns c = rows_are_latencies
