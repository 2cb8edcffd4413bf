use Rattle.std.proofs.Common.{◌≡◌, drop}
use Rattle.convoy_fits.specs.Fits.{time_told}
use Rattle.convoy_fits.proofs.told_times.time_told.Given as goal

-- the time is that of the first among what is left
abbrev pub invariant-loop-one : goal.invariant-loop-one
invariant-loop-one l = time_told (drop l.one-index l.told) l.message l.event ≡ time_told l.told l.message l.event
