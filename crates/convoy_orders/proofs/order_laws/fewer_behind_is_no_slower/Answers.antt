use Rattle.convoy_orders.proofs.Later.{fewer_no_slower}
use Rattle.convoy_orders.proofs.order_laws.fewer_behind_is_no_slower.Goals as goal

pub returns : goal.returns
returns c = fewer_no_slower c.renumbered_runs_agree.ensures c.fewer_behind_is_no_later.ensures
