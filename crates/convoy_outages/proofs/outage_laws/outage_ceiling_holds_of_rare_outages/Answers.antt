use Rattle.convoy_outages.proofs.Bound.{holds_of_rare}
use Rattle.convoy_outages.proofs.outage_laws.outage_ceiling_holds_of_rare_outages.Goals as goal

pub returns : goal.returns
returns c = holds_of_rare c.work_is_within_ceiling.ensures
