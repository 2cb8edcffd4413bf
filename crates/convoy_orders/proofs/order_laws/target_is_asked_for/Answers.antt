use Rattle.convoy_orders.proofs.Targets.{asked_for}
use Rattle.convoy_orders.proofs.order_laws.target_is_asked_for.Goals as goal

pub returns : goal.returns
returns c = asked_for
