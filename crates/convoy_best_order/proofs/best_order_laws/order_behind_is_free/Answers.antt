use Rattle.convoy_best_order.proofs.Behind.{behind_free}
use Rattle.convoy_best_order.proofs.best_order_laws.order_behind_is_free.Goals as goal

pub returns : goal.returns
returns c =
    behind_free c.around_is_scenario.ensures c.scenarios_have_drafts.ensures c.drafts_give_scenarios.ensures c.relisted_drafts_give_scenarios.ensures
    c.relisted_drafts_are_renumbered.ensures c.fewer_behind_is_no_slower.ensures
