use Rattle.convoy_rows.specs.Rows.{IsMade}
use Rattle.convoy_rows.proofs.Placing.{one_more_made, right_without}
use Rattle.convoy_rows.proofs.threads.make_rest.Goals as goal

pub loop-number-preserved : goal.loop-number-preserved
loop-number-preserved g c = record {
  right = rw c.take_row-placed.ensures.rest (right_without (IsMade (goal.F-post g c.args.make.now)) c.loop-number.places.items c.loop-number.number c.loop-number.invariant.right);
  made = rw c.in_ok-push.ensures.items (one_more_made (goal.F-post g c.args.make.now) c.loop-number.number c.loop-number.rows.items c.row_of.result c.loop-number.invariant.made c.row_of.ensures);
}
