use Rattle.convoy_outages.proofs.Bound.{costs}
use Rattle.convoy_outages.proofs.outage_laws.outages_cost_what_they_last.Goals as goal

pub returns : goal.returns
returns c = costs c.work_is_within_ceiling.ensures
