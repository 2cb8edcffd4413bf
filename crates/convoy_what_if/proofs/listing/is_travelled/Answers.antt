use Rattle.convoy_packets.specs.Packets.{packets_of}
use Rattle.convoy_what_if.specs.Changes.{goes_between}
use Rattle.convoy_what_if.proofs.Loops.{any_more}
use Rattle.convoy_what_if.proofs.listing.is_travelled.Goals as goal

pub loop-place-preserved : goal.loop-place-preserved
loop-place-preserved c =
    rw c.goes_between-travelled.ensures
    (any_more (goes_between c.args.instance.now c.args.sender c.args.to) (packets_of c.args.instance.now) c.loop-place.place c.packet.result
    c.loop-place.travelled (rw c.table-table.ensures.value at c.packet.ensures) c.loop-place.invariant)
