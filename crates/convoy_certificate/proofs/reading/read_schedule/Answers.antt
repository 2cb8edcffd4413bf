use Rattle.std.proofs.Common.{◌∙◌, ap}
use Rattle.convoy_packets.specs.Table.{PacketTable}
use Rattle.convoy_certificate.proofs.Assigned.{assigned}
use Rattle.convoy_certificate.proofs.reading.read_schedule.Goals as goal

pub returns-clause-lawful : goal.returns-clause-lawful
returns-clause-lawful c =
    rw (c.with_order.ensures)
    (assigned c.args.instance.now c.in_ok-delays.delays.items c.in_ok-order.order c.ranges-2.result.now c.deref.result.now c.are_within.result
    (c.ranges-2.ensures.value ∙ ap (λ (t : PacketTable). t.ranges) c.table.ensures.value) c.deref.ensures.value c.are_within.ensures c.if-not-are_within.false (rw c.scenario.ensures.value at c.in_ok-order.ensures.lawful))
