use Rattle.convoy_intervals.proofs.Carrying.{carried}
use Rattle.convoy_intervals.proofs.box_laws.spans_are_carried.Goals as goal

pub returns : goal.returns
returns c plan ranges i range packet m g stands = carried plan ranges i range packet c.places_lead_back.ensures stands m g
