use Rattle.std.proofs.Common.{◌≡◌, ◌⊎◌, ◌+◌, ◌-◌, IsTrue}
use Rattle.convoy_scenario.specs.Scenario.{message_at}
use Rattle.convoy_causes.specs.CauseWindows.{is_before}
use Rattle.convoy_causes.proofs.cause_test.CauseTest.least_after.Given as goal

abbrev pub invariant-loop-low : goal.invariant-loop-low
invariant-loop-low l =
    (l.high ≡ l.most) ⊎ IsTrue (is_before l.self.instance.now l.self.leads.windows ((message_at l.self.instance.now l.origin).at + l.high + 1))

abbrev pub decreases-loop-low : goal.decreases-loop-low
decreases-loop-low l = l.high - l.low
