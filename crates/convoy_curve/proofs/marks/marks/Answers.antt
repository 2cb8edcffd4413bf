use Rattle.std.proofs.Common.{refl, string_bytes}
use Rattle.convoy_curve.proofs.Telling.{dots_all, dots_more}
use Rattle.convoy_curve.proofs.marks.marks.Goals as goal

pub loop-dot-preserved : goal.loop-dot-preserved
loop-dot-preserved c =
    rw (c.in_ok-push_str.ensures.bytes, c.deref.ensures)
    (dots_more c.args.curve.now c.args.dots.now c.loop-dot.dot-index _ (string_bytes c.loop-dot.text) (string_bytes c.in_ok-mark.mark) _
    c.loop-dot-test.true refl c.loop-dot.invariant c.in_ok-mark.ensures)

pub returns : goal.returns
returns c =
    dots_all c.args.curve.now c.args.dots.now c.loop-dot.dot-index (string_bytes c.loop-dot.text) c.loop-dot-test.false c.loop-dot.invariant
