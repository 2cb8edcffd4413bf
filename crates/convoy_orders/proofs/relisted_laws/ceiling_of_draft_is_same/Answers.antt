use Rattle.convoy_orders.proofs.RelistedOrders.{ceiling_same}
use Rattle.convoy_orders.proofs.relisted_laws.ceiling_of_draft_is_same.Goals as goal

pub returns : goal.returns
returns c = ceiling_same c.relisted_drafts_are_renumbered.ensures c.ceiling_is_same.ensures
