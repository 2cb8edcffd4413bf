use Rattle.std.proofs.Common.{sym, ◌∙◌}
use Rattle.convoy_starts.proofs.Loops.{covers_none}
use Rattle.convoy_starts.proofs.start.covers_all.Goals as goal

pub returns-then-i-new : goal.returns-then-i-new
returns-then-i-new c = sym (covers_none c.args.old.now c.args.new.now c.loop-i.i c.loop-i-test.true c.if-i-new.true) ∙ c.loop-i.invariant
