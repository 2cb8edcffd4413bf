use Rattle.convoy_best_order.proofs.Better.{no_better}
use Rattle.convoy_best_order.proofs.best_order_laws.no_order_is_better.Goals as goal

pub returns : goal.returns
returns c =
    no_better c.scenarios_have_drafts.ensures c.drafts_give_scenarios.ensures c.relisted_drafts_give_scenarios.ensures
    c.relisted_drafts_are_renumbered.ensures c.around_is_scenario.ensures c.renumbered_runs_agree.ensures c.fewer_behind_is_no_later.ensures
