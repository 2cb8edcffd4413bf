use Rattle.std.proofs.Common.{◌≡◌, ◌++◌}
use Rattle.convoy_timeline.specs.Causes.{rises_before}
use Rattle.convoy_timeline.proofs.rises.rises_before.Given as goal

-- the rises so far and those before the next stamp are all
abbrev pub invariant-loop-rise : goal.invariant-loop-rise
invariant-loop-rise l =
    l.found.items ++ rises_before l.rises l.next.time l.next.group ≡ rises_before l.rises l.fn.stamp.time l.fn.stamp.group

abbrev pub decreases-loop-rise : goal.decreases-loop-rise
decreases-loop-rise l = l.next.time
