use Rattle.convoy_orders.proofs.Narrower.{narrower_runs}
use Rattle.convoy_orders.proofs.range_laws.narrower_runs_are_runs.Goals as goal

pub returns : goal.returns
returns c = narrower_runs c.homes_decide_what_takes_time.ensures
