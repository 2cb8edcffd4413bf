use Rattle.convoy_branch.proofs.told_back.LaterRun.order.Goals as goal

pub returns-in-Ticks : goal.returns-in-Ticks
returns-in-Ticks c = rw c.none.ensures (c.fixed_order_is_order.ensures c.args.self.now.instance.now)
