use Rattle.convoy_best_order.proofs.Better.{best_keeps}
use Rattle.convoy_best_order.proofs.best_order_laws.best_order_keeps.Goals as goal

pub returns : goal.returns
returns c = best_keeps
