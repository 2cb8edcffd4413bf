use Rattle.std.proofs.Common.{◌≡◌, length}
use Rattle.convoy_kinds.specs.Checks.{ascend}
use Rattle.convoy_kinds.proofs.checks.ascend.Given as goal

abbrev pub invariant-loop-size : goal.invariant-loop-size
invariant-loop-size l = ascend l.rest ≡ ascend l.sizes

abbrev pub decreases-loop-size : goal.decreases-loop-size
decreases-loop-size l = length l.rest
