use Rattle.convoy_fits.proofs.ties.order_by.Goals as goal

pub returns : goal.returns
returns c = rw c.none.ensures (c.fixed_order_is_order.ensures c.args.finer.now)
