use Rattle.std.proofs.Common.{◌≡◌, ◌++◌, map, drop}
use Rattle.convoy_timeline.specs.RiseWords.{rise_told}
use Rattle.convoy_timeline.proofs.rises.list_rises.Given as goal

-- the rises so far and those of the moments that are left are those of all moments
abbrev pub invariant-loop-moment : goal.invariant-loop-moment
invariant-loop-moment l = l.rises.items ++ map (rise_told l.run) (drop l.moment-index l.moments) ≡ map (rise_told l.run) l.moments
