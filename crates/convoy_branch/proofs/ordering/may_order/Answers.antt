use Rattle.convoy_branch.proofs.ordering.may_order.Goals as goal

pub returns : goal.returns
returns c =
    rw (c.scenario.ensures.value, c.before-2.ensures.value) at (c.can_order.ensures c.args.branch.now.region.ranges)
