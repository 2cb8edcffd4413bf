use Rattle.std.proofs.Common.{sym, subst}
use Rattle.convoy_library.specs.Assignment.{AreWithin, Schedule}
use Rattle.convoy_library.specs.Order.{IsOrder}
use Rattle.convoy_library.specs.Table.{PacketTable}
use Rattle.convoy_library_tests.proofs.greatest.greatest_latency_by.Goals as goal

pub of-opening-requires : goal.of-opening-requires
of-opening-requires g c = record {
  assignment = record {
    delays = subst (λ (t : PacketTable). AreWithin t.ranges c.in_ok-least.field-0.delays) c.table.ensures.value c.in_ok-least.ensures.within;
    order = subst (λ (s : Schedule). IsOrder c.args.instance.now s.order) (sym c.in_ok-least.ensures.value) (c.fixed_order_is_order.ensures c.args.instance.now);
  };
}

pub returns : goal.returns
returns g c = c.answer_of.ensures _ _ _ _ c.in_ok-outcome.ensures.value.answer
