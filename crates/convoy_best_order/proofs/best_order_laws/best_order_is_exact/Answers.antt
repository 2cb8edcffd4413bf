use Rattle.convoy_best_order.proofs.Better.{best_is_exact}
use Rattle.convoy_best_order.proofs.best_order_laws.best_order_is_exact.Goals as goal

pub returns : goal.returns
returns c =
    best_is_exact c.no_order_is_better.ensures
