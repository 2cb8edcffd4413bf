use Rattle.convoy_orders.proofs.Ceilings.{ceiling_same}
use Rattle.convoy_orders.proofs.order_laws.ceiling_is_same.Goals as goal

pub returns : goal.returns
returns c = ceiling_same
