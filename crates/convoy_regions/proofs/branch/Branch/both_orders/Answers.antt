use Rattle.std.proofs.Common.{◌≡◌}
use Rattle.convoy_regions.specs.Stages.{stage_at}
use Rattle.convoy_regions.proofs.Walks.{pair_is_precedence}
use Rattle.convoy_regions.proofs.branch.Branch.both_orders.Goals as goal

pub with_order-requires : goal.with_order-requires
with_order-requires c =
    let is : c.in_ok-pair.pair ≡ (stage_at c.args.instance.now c.args.first, stage_at c.args.instance.now c.args.second) = rw (← c.scenario.ensures.value) c.in_ok-pair.ensures in
    (pair_is_precedence c.args.self.now.scenario c.args.instance.now c.args.self.now.region c.args.first c.args.second c.in_ok-pair.pair c.requires.of_scenario c.requires.can_order is).0

pub with_order-requires-2 : goal.with_order-requires-2
with_order-requires-2 c =
    let is : c.in_ok-pair.pair ≡ (stage_at c.args.instance.now c.args.first, stage_at c.args.instance.now c.args.second) = rw (← c.scenario.ensures.value) c.in_ok-pair.ensures in
    (pair_is_precedence c.args.self.now.scenario c.args.instance.now c.args.self.now.region c.args.first c.args.second c.in_ok-pair.pair c.requires.of_scenario c.requires.can_order is).1
