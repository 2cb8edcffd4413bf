use Rattle.std.proofs.Common.{◌-◌, IsTrue}
use Rattle.convoy_causes.specs.CauseWindows.{is_delivered_within}
use Rattle.convoy_causes.proofs.narrowing.Narrowing.least_late.Given as goal

abbrev pub invariant-loop-low : goal.invariant-loop-low
invariant-loop-low l = IsTrue (is_delivered_within l.self.cutting.instance.now l.self.causes.now l.cause l.high l.windows)

abbrev pub decreases-loop-low : goal.decreases-loop-low
decreases-loop-low l = l.high - l.low
