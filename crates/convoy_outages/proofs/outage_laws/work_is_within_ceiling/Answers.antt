use Rattle.convoy_outages.proofs.Bound.{work_holds}
use Rattle.convoy_outages.proofs.outage_laws.work_is_within_ceiling.Goals as goal

pub returns : goal.returns
returns c =
    work_holds (record {
      bound = c.traffic_delivery_bound.ensures;
      unsent = c.unsent_takes_no_time.ensures;
      homes = c.homes_decide_what_takes_time.ensures;
    })
