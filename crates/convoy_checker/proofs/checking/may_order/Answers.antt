use Rattle.convoy_checker.proofs.checking.may_order.Goals as goal

pub returns : goal.returns
returns c =
    rw (c.scenario.ensures.value, c.before-2.ensures, c.from-first.ensures, c.from-second.ensures) at (c.can_order.ensures c.args.region.now.ranges)
