use Rattle.convoy_checker.proofs.OpenRegions.{order_regions}
use Rattle.convoy_checker.proofs.walk.Walk.order.Goals as goal

pub returns : goal.returns
returns c =
    order_regions c.args.instance.now c.self.inside.stands c.self.inside.current _ c.self.inside.changes.items _ _ _ c.args.first c.args.second _ _ c.in_ok-pair.pair c.self.view_is c.requires c.from.ensures c.from-2.ensures (rw c.scenario.ensures.value at c.in_ok-pair.ensures) c.in_ok-push.ensures.items c.in_ok-push-2.ensures.items c.in_ok-add.ensures.value
