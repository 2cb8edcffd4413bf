use Rattle.convoy_plan_checker.proofs.Valid.{best_is}
use Rattle.convoy_plan_checker.proofs.plan_check_laws.valid_is_best.Goals as goal

pub returns : goal.returns
returns c =
    best_is c.valid_is_greatest.ensures
    (record {
      have = c.scenarios_have_drafts.ensures;
      given = c.drafts_give_scenarios.ensures;
      give = c.relisted_drafts_give_scenarios.ensures;
      renumbered = c.relisted_drafts_are_renumbered.ensures;
      below = c.no_order_is_below.ensures;
    })
    (record {
      have = c.scenarios_have_drafts.ensures;
      given = c.drafts_give_scenarios.ensures;
      give = c.relisted_drafts_give_scenarios.ensures;
      renumbered = c.relisted_drafts_are_renumbered.ensures;
      after = c.delivered_after_commit.ensures;
      ranges = c.ranges_are_of_sites.ensures;
      messages = c.messages_are_of_plans.ensures;
    })
