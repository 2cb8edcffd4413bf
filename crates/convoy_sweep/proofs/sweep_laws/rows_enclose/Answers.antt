use Rattle.convoy_sweep.proofs.Enclosing.{rows_enclose}
use Rattle.convoy_sweep.proofs.sweep_laws.rows_enclose.Goals as goal

pub returns : goal.returns
returns c = rows_enclose
