use Rattle.convoy_outages.proofs.Ordinary.{holds_without}
use Rattle.convoy_outages.proofs.outage_laws.outage_ceiling_holds_without_outages.Goals as goal

pub returns : goal.returns
returns c = holds_without c.ceiling_holds_for_any_kinds.ensures
