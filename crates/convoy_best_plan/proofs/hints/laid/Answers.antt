use Rattle.std.proofs.Common.{◌≡◌, sym, subst, inl, inr}
use Rattle.convoy_packets.specs.Assignment.{AreWithin, Schedule}
use Rattle.convoy_packets.specs.Order.{no_order}
use Rattle.convoy_packets.specs.Table.{PacketTable}
use Rattle.convoy_seek.proofs.Schedules.{fixed_order}
use Rattle.convoy_best_plan.proofs.hints.laid.Goals as goal

pub returns-in-Ok : goal.returns-in-Ok
returns-in-Ok c =
    let schedule : Schedule = c.in-Ok.schedule in
    let fixed : schedule.order ≡ no_order = elim c.in-Ok.ensures.value [
      | inl e ↦ ((c.lists_of_delays_are_schedules.ensures c.table.result.now.ranges c.args.list.now schedule).0 (sym e)).2
      | inr e ↦ absurd cc
    ] in
    record {
      delays = subst (λ (t : PacketTable). AreWithin t.ranges schedule.delays) c.table.ensures.value c.in-Ok.ensures.within;
      order = fixed_order c.args.instance.now schedule.order c.fixed_order_is_order.ensures fixed;
    }
