use Rattle.convoy_orders.proofs.Later.{runs_agree}
use Rattle.convoy_orders.proofs.order_laws.renumbered_runs_agree.Goals as goal

pub returns : goal.returns
returns c =
    runs_agree
    (record {
      sent = c.packets_are_those_sent.ensures;
      places = c.places_lead_back.ensures;
      within = c.delays_are_within.ensures;
      unsent = c.unsent_takes_no_time.ensures;
      fixed = c.fixed_order_is_order.ensures;
    })
    (record {
      local = c.final_stamp_is_local.ensures;
      greatest = c.no_local_stamp_is_greater.ensures;
      rise = c.stamps_rise.ensures;
      past_commit = c.stamps_rise_past_commit.ensures;
      last = c.last_raise.ensures;
    })
