use Rattle.convoy_plans.specs.Placements.{link_to}
use Rattle.convoy_plans.proofs.Loops.{pieces_more}
use Rattle.convoy_plans.proofs.placements.push_links_from.Goals as goal

pub loop-group-preserved : goal.loop-group-preserved
loop-group-preserved c =
    rw c.in_ok-push_link_to.ensures
    (pieces_more _ _ (link_to c.args.plan.now c.args.placement.now c.args.spot.now) c.loop-group.group c.loop-group.invariant)
