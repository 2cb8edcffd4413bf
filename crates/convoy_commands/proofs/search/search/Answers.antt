use Rattle.std.proofs.Common.{sym, subst}
use Rattle.convoy_packets.specs.Assignment.{AreWithin, Schedule}
use Rattle.convoy_packets.specs.Order.{IsOrder}
use Rattle.convoy_packets.specs.Table.{PacketTable}
use Rattle.convoy_commands.proofs.Starts.{one_ticket}
use Rattle.convoy_commands.proofs.search.search.Goals as goal

pub of-opening-requires : goal.of-opening-requires
of-opening-requires g c = record {
  assignment = record {
    delays = subst (λ (t : PacketTable). AreWithin t.ranges c.in_ok-schedule.schedule.delays) c.table.ensures.value c.in_ok-schedule.ensures.within;
    order = subst (λ (s : Schedule). IsOrder c.args.instance.now s.order) (sym c.in_ok-schedule.ensures.value) (c.fixed_order_is_order.ensures c.args.instance.now);
  };
}

pub returns-in_default : goal.returns-in_default
returns-in_default g c =
    one_ticket _ _ _ c.ways.ensures.lawful (rw (c.first_bounds.ensures, c.ways.ensures.value) at c.in_ok-proved.ensures)
    c.in_default.not-Open
