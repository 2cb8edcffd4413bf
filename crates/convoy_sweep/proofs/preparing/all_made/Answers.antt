use Rattle.convoy_sweep.proofs.Making.{made_more}
use Rattle.convoy_sweep.proofs.preparing.all_made.Goals as goal

pub loop-point-preserved : goal.loop-point-preserved
loop-point-preserved c =
    rw c.in_ok-push.ensures.items
    (made_more c.args.asked.now.around c.args.sweep.now c.args.written.now c.args.points.now c.loop-point.point-index _ c.loop-point.made.items c.in_ok-one.one
    c.loop-point-test.true c.loop-point.invariant c.in_ok-one.ensures)
