use Rattle.convoy_budget.proofs.Holding.{rooms_hold}
use Rattle.convoy_budget.proofs.budget_laws.rooms_hold.Goals as goal

pub returns : goal.returns
returns c = rooms_hold c.drafts_give_scenarios.ensures c.target_is_asked_for.ensures c.narrower_links_are_no_slower.ensures
