use Rattle.std.proofs.Common.{List, subst}
use Rattle.convoy_best_order.specs.declared.target.Target.{Target}
use Rattle.convoy_best_plan.specs.declared.floor.Floor.{Floor}
use Rattle.convoy_best_plan.specs.Leaves.{IsLateAnyhow}
use Rattle.convoy_best_plan.proofs.LateAnyhow.{late_passed}
use Rattle.convoy_best_plan.proofs.cutting.is_late_below.Goals as goal

pub returns : goal.returns
returns c = λ settings wanted told is yes placement placed new all.
    late_passed
    (record {
      have = c.scenarios_have_drafts.ensures;
      given = c.drafts_give_scenarios.ensures;
      give = c.relisted_drafts_give_scenarios.ensures;
      renumbered = c.relisted_drafts_are_renumbered.ensures;
      after = c.delivered_after_commit.ensures;
      ranges = c.ranges_are_of_sites.ensures;
      messages = c.messages_are_of_plans.ensures;
    })
    settings wanted c.args.plan.now told c.args.planned.now c.args.sites.now c.group_count-count.ensures.lawful is
    (subst (λ (f : Floor). IsLateAnyhow c.args.plan.now c.args.planned.now.scenario c.args.sites.now c.args.planned.now.targets.items f) c.reach.ensures
    (subst (λ (ts : List Target). IsLateAnyhow c.args.plan.now c.args.planned.now.scenario c.args.sites.now ts c.reach.result) c.deref.ensures.value
    (c.is_late_anyhow.ensures yes)))
    placement all
