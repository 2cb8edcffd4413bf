use Rattle.std.proofs.Common.{arith}
use Rattle.convoy_packets.specs.Assignment.{ranges_of}
use Rattle.convoy_fits.proofs.Lengths.{length_within}
use Rattle.convoy_fits.proofs.laying.lay.Goals as goal

pub set-requires : goal.set-requires
set-requires c =
    let long = length_within (ranges_of c.args.finer.now) c.loop-at.schedule.delays c.loop-at.invariant in
    let one = c.table-table.ensures.lawful.one_each in
    let count = rw c.table-table.ensures.value at c.len-at-end.ensures.value in
    omega arith
