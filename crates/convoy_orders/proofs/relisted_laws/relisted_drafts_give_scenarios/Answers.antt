use Rattle.convoy_orders.proofs.RelistedRules.{drafts_too}
use Rattle.convoy_orders.proofs.relisted_laws.relisted_drafts_give_scenarios.Goals as goal

pub returns : goal.returns
returns c = drafts_too
