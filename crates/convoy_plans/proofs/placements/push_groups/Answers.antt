use Rattle.std.proofs.Common.{◌∙◌, rules}
use Rattle.convoy_plans.specs.Placements.{group_spot}
use Rattle.convoy_plans.proofs.Loops.{map_more}
use Rattle.convoy_plans.proofs.placements.push_groups.Goals as goal

pub loop-group-preserved : goal.loop-group-preserved
loop-group-preserved c =
    c.in_ok-push.ensures.items
    ∙ map_more _ _ (group_spot c.args.plan.now c.args.placement.now) c.loop-group.group _ c.loop-group.invariant (search rules)
