use Rattle.std.proofs.Common.{◌-◌, IsTrue}
use Rattle.convoy_finishes.specs.FinishClosing.{closes_finishing_over}
use Rattle.convoy_finishes.proofs.finish_test.FinishTest.least_after.Given as goal

abbrev pub invariant-loop-low : goal.invariant-loop-low
invariant-loop-low l = IsTrue (closes_finishing_over l.self.instance.now l.self.leads.windows l.self.ways.now l.high)

abbrev pub decreases-loop-low : goal.decreases-loop-low
decreases-loop-low l = l.high - l.low
