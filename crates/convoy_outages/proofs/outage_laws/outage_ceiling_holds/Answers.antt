use Rattle.convoy_outages.proofs.Bound.{holds_through}
use Rattle.convoy_outages.proofs.outage_laws.outage_ceiling_holds.Goals as goal

pub returns : goal.returns
returns c = holds_through c.outages_cost_what_they_last.ensures
