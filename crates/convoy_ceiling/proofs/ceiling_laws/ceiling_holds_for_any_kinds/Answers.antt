use Rattle.convoy_ceiling.proofs.Bound.{holds_for_any}
use Rattle.convoy_ceiling.proofs.ceiling_laws.ceiling_holds_for_any_kinds.Goals as goal

pub returns : goal.returns
returns c =
    holds_for_any (record {
      bound = c.traffic_delivery_bound.ensures;
      within = c.delays_are_within.ensures;
      fixed = c.fixed_order_is_order.ensures;
      unsent = c.unsent_takes_no_time.ensures;
      homes = c.homes_decide_what_takes_time.ensures;
    })
