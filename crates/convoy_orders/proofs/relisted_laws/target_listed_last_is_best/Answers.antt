use Rattle.convoy_orders.proofs.RelistedOrders.{last_is_best}
use Rattle.convoy_orders.proofs.relisted_laws.target_listed_last_is_best.Goals as goal

pub returns : goal.returns
returns c = last_is_best c.drafts_give_scenarios.ensures c.relisted_drafts_are_renumbered.ensures c.last_listed_is_best.ensures
