use Rattle.convoy_outside.proofs.Late.{shares_add}
use Rattle.convoy_outside.proofs.outside_laws.shares_add_up.Goals as goal

pub returns : goal.returns
returns c = shares_add
