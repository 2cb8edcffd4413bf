use Rattle.std.proofs.Common.{refl, rules}
use Rattle.convoy_wishes.proofs.FixedOrders.{greatest_assigned}
use Rattle.convoy_wishes.proofs.wishing.Wishing.of.Goals as goal

pub returns : goal.returns
returns c =
    let plan = c.args.scene.instance.now in
    let box = c.args.scene.delay_box.now in
    let tried = c.in_ok-tried.tried in
    record {
      of_scenario = refl;
      of_box = refl;
      scene = c.requires;
      from = refl;
      inside = c.in_ok-tried.ensures.member;
      assignment = greatest_assigned plan box tried c.members_are_assignments.ensures c.fixed_order_is_order.ensures c.requires.inside c.in_ok-tried.ensures.member c.in_ok-tried.ensures.value;
      best = search rules;
    }
