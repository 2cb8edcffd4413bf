use Rattle.std.proofs.Common.{List, subst}
use Rattle.convoy_plan_ceilings.specs.declared.target_ceiling.TargetCeiling.{TargetCeiling}
use Rattle.convoy_plan_ceilings.specs.Bounds.{IsHighAnyhow}
use Rattle.convoy_plan_ceilings.proofs.Bounding.{high_passed}
use Rattle.convoy_plan_ceilings.proofs.cutting.is_high_below.Goals as goal

pub returns : goal.returns
returns c = λ wanted is are yes placement placed all.
    high_passed c.ranges_are_of_sites.ensures c.groups_have_no_links_to_themselves.ensures c.messages_are_of_plans.ensures wanted c.args.plan.now c.args.chosen.now c.args.leasts.now c.args.sites.now
    c.group_count-count.ensures.lawful is are
    (subst (λ (rows : List TargetCeiling). IsHighAnyhow c.args.plan.now c.args.chosen.now.scenario c.args.leasts.now c.args.sites.now rows c.args.chosen.now.reach) c.deref.ensures.value
    (c.is_high_anyhow.ensures yes))
    placement all
