use Rattle.std.proofs.Common.{◌≡◌, ◌-◌, drop, length}
use Rattle.convoy_starts.specs.Starts.{covers_all}
use Rattle.convoy_starts.proofs.start.covers_all.Given as goal

abbrev pub invariant-loop-i : goal.invariant-loop-i
invariant-loop-i l = covers_all (drop l.i l.old) (drop l.i l.new) ≡ covers_all l.old l.new

abbrev pub decreases-loop-i : goal.decreases-loop-i
decreases-loop-i l = length l.old - l.i
