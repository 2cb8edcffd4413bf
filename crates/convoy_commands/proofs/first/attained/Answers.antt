use Rattle.std.proofs.Common.{sym, subst}
use Rattle.convoy_packets.specs.Assignment.{AreWithin, Schedule}
use Rattle.convoy_packets.specs.Order.{IsOrder}
use Rattle.convoy_packets.specs.Table.{PacketTable}
use Rattle.convoy_commands.proofs.first.attained.Goals as goal

pub latency-attained-requires : goal.latency-attained-requires
latency-attained-requires c = record {
  assignment = record {
    delays = subst (λ (t : PacketTable). AreWithin t.ranges c.in_ok-schedule.schedule.delays) c.table.ensures.value c.in_ok-schedule.ensures.within;
    order = subst (λ (s : Schedule). IsOrder c.args.instance.now s.order) (sym c.in_ok-schedule.ensures.value) (c.fixed_order_is_order.ensures c.args.instance.now);
  };
}
