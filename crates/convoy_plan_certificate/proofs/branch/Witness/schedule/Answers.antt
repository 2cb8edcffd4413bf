use Rattle.std.proofs.Common.{◌∙◌, ap, sym}
use Rattle.convoy_packets.specs.Table.{PacketTable}
use Rattle.convoy_certificate.proofs.Assigned.{assigned}
use Rattle.convoy_plan_certificate.proofs.branch.Witness.schedule.Goals as goal

pub returns-in_ok-delays-in-Some-clause-lawful : goal.returns-in_ok-delays-in-Some-clause-lawful
returns-in_ok-delays-in-Some-clause-lawful c =
    rw c.with_order.ensures
    (assigned c.args.instance.now c.in_ok-delays-in-Some.delays.items c.in-Some.order c.ranges-2.result.now c.deref.result.now c.are_within.result
    (c.ranges-2.ensures.value ∙ ap (λ (t : PacketTable). t.ranges) c.table.ensures.value)
    (c.deref.ensures.value ∙ sym c.deref-in-Some.ensures.value ∙ sym c.in_ok-delays-in-Some.ensures.items) c.are_within.ensures c.if-not-are_within.false
    (rw c.scenario.ensures.value at c.in-Some.ensures.lawful))
