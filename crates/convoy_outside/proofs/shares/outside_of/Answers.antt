use Rattle.convoy_packets.specs.Packets.{packets_of}
use Rattle.convoy_outside.specs.Sums.{share_of}
use Rattle.convoy_outside.proofs.Sums.{one_more}
use Rattle.convoy_outside.proofs.shares.outside_of.Goals as goal

pub loop-place-preserved : goal.loop-place-preserved
loop-place-preserved c =
    one_more (share_of c.args.shares.now c.args.instance.now) (packets_of c.args.instance.now) c.loop-place.place _ _ _ _ c.packet.result
    (rw c.table-table.ensures.value at c.packet.ensures) c.loop-place.invariant (rw c.scenario.ensures.value at c.share_of-share.ensures) c.saturating_add.ensures c.min-sum.ensures
