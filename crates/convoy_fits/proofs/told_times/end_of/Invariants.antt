use Rattle.std.proofs.Common.{◌≡◌, drop}
use Rattle.convoy_fits.specs.Fits.{end_from}
use Rattle.convoy_fits.proofs.told_times.end_of.Given as goal

-- the last time so far, and of what is left
abbrev pub invariant-loop-one : goal.invariant-loop-one
invariant-loop-one l = end_from l.last (drop l.one-index l.told) ≡ end_from 0 l.told
