use Rattle.convoy_orders.proofs.Later.{fewer_no_later}
use Rattle.convoy_orders.proofs.order_laws.fewer_behind_is_no_later.Goals as goal

pub returns : goal.returns
returns c =
    fewer_no_later (record {
      local = c.final_stamp_is_local.ensures;
      greatest = c.no_local_stamp_is_greater.ensures;
      names = c.local_stamp_names_group.ensures;
      delivery = c.delivery_law.ensures;
    })
