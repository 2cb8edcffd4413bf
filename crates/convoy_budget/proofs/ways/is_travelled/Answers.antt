use Rattle.convoy_packets.specs.Packets.{packets_of}
use Rattle.convoy_budget.specs.Ways.{goes_on}
use Rattle.convoy_budget.proofs.Loops.{any_more}
use Rattle.convoy_budget.proofs.ways.is_travelled.Goals as goal

pub loop-place-preserved : goal.loop-place-preserved
loop-place-preserved c =
    rw c.goes_on-travelled.ensures
    (any_more (goes_on c.args.instance.now c.args.way) (packets_of c.args.instance.now) c.loop-place.place c.packet.result
    c.loop-place.travelled (rw c.table-table.ensures.value at c.packet.ensures) c.loop-place.invariant)
