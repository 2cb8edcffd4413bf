use Rattle.convoy_orders.proofs.RelistedOrders.{none_below}
use Rattle.convoy_orders.proofs.relisted_laws.no_order_of_draft_is_below.Goals as goal

pub returns : goal.returns
returns c = none_below c.drafts_give_scenarios.ensures c.relisted_drafts_are_renumbered.ensures c.no_order_is_below.ensures
