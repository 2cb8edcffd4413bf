use Rattle.convoy_ceiling.proofs.Bound.{holds_finer}
use Rattle.convoy_ceiling.proofs.ceiling_laws.ceiling_holds_in_finer_ticks.Goals as goal

pub returns : goal.returns
returns c =
    holds_finer (record {
      bound = c.traffic_delivery_bound.ensures;
      within = c.delays_are_within.ensures;
      fixed = c.fixed_order_is_order.ensures;
      unsent = c.unsent_takes_no_time.ensures;
      homes = c.homes_decide_what_takes_time.ensures;
    })
