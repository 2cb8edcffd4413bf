use Rattle.convoy_orders.proofs.Narrower.{no_slower}
use Rattle.convoy_orders.proofs.range_laws.narrower_is_no_slower.Goals as goal

pub returns : goal.returns
returns c = no_slower c.narrower_runs_are_runs.ensures
