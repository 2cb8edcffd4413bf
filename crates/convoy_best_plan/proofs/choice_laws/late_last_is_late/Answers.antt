use Rattle.convoy_best_plan.proofs.LastListed.{past_in_all}
use Rattle.convoy_best_plan.proofs.choice_laws.late_last_is_late.Goals as goal

pub returns : goal.returns
returns c = λ scenario targets target instance least well may of_target last past.
    past_in_all
    (record {
      have = c.scenarios_have_drafts.ensures;
      given = c.drafts_give_scenarios.ensures;
      give = c.relisted_drafts_give_scenarios.ensures;
      renumbered = c.relisted_drafts_are_renumbered.ensures;
      below = c.no_order_is_below.ensures;
    })
    scenario target well may targets least instance of_target last past
