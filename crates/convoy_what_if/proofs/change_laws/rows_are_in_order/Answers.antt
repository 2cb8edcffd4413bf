use Rattle.convoy_what_if.proofs.Numbers.{rows_are_in_order}
use Rattle.convoy_what_if.proofs.change_laws.rows_are_in_order.Goals as goal

pub returns : goal.returns
returns c = rows_are_in_order
