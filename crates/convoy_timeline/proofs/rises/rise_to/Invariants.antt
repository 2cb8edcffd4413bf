use Rattle.std.proofs.Common.{◌≡◌, find, drop}
use Rattle.convoy_timeline.specs.Causes.{is_rise_to}
use Rattle.convoy_timeline.proofs.rises.rise_to.Given as goal

-- the first of those that are left is the first of all
abbrev pub invariant-loop-rise : goal.invariant-loop-rise
invariant-loop-rise l = find (is_rise_to l.time l.group) (drop l.rise-index l.rises) ≡ find (is_rise_to l.time l.group) l.rises
