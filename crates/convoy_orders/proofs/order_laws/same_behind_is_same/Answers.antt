use Rattle.convoy_orders.proofs.Later.{same_is_same}
use Rattle.convoy_orders.proofs.order_laws.same_behind_is_same.Goals as goal

pub returns : goal.returns
returns c = same_is_same c.fewer_behind_is_no_slower.ensures c.renumbered_runs_agree.ensures c.fewer_behind_is_no_later.ensures
