use Rattle.std.specs.Prelude.{◌≡◌}
use Rattle.std.proofs.Common.{sym, subst, inl, inr}
use Rattle.convoy_library.specs.Assignment.{AreWithin, Schedule}
use Rattle.convoy_library.specs.Order.{IsOrder, Order, no_order}
use Rattle.convoy_library.specs.Table.{PacketTable}
use Rattle.convoy_library_tests.proofs.schedule.latency_under.Goals as goal

pub latency-requires : goal.latency-requires
latency-requires c =
    let schedule : Schedule = c.in_ok-schedule.schedule in
    let fixed : schedule.order ≡ no_order = elim c.in_ok-schedule.ensures.value [
      | inl e ↦ ((c.lists_of_delays_are_schedules.ensures c.table.result.now.ranges c.args.delays.now schedule).0 (sym e)).2
      | inr e ↦ absurd cc
    ] in
    record {
      assignment = record {
        delays = subst (λ (t : PacketTable). AreWithin t.ranges schedule.delays) c.table.ensures.value c.in_ok-schedule.ensures.within;
        order = subst (λ (o : Order). IsOrder c.in_ok-instance.instance o) (sym fixed) (c.fixed_order_is_order.ensures c.in_ok-instance.instance);
      };
    }
