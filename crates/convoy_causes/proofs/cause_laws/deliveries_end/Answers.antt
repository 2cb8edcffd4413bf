use Rattle.convoy_causes.proofs.Delivered.{deliveries_end}
use Rattle.convoy_causes.proofs.cause_laws.deliveries_end.Goals as goal

pub returns : goal.returns
returns c = deliveries_end c.delivered_before.ensures
