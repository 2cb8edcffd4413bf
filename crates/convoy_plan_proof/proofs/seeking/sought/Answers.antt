use Rattle.convoy_seek.proofs.Schedules.{greatest_assigned}
use Rattle.convoy_plan_proof.proofs.seeking.sought.Goals as goal

pub of-known-requires : goal.of-known-requires
of-known-requires c = record {
  assignment = greatest_assigned c.args.instance.now _ c.in_ok-greatest.greatest c.fixed_order_is_order.ensures c.table.ensures.value c.in_ok-greatest.ensures.value
      c.in_ok-greatest.ensures.within;
}
