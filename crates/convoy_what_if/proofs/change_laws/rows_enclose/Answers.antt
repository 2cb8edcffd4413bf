use Rattle.convoy_what_if.proofs.Numbers.{rows_enclose}
use Rattle.convoy_what_if.proofs.change_laws.rows_enclose.Goals as goal

pub returns : goal.returns
returns c = rows_enclose
