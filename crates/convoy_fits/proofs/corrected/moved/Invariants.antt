use Rattle.std.proofs.Common.{◌≡◌, map, take}
use Rattle.convoy_fits.specs.Skews.{corrected}
use Rattle.convoy_fits.specs.Tests.{lag_by}
use Rattle.convoy_fits.proofs.corrected.moved.Given as goal

-- those so far, by clocks that are right
abbrev pub invariant-loop-one : goal.invariant-loop-one
invariant-loop-one l = l.told.items ≡ map (corrected l.lags.skew (lag_by l.lags) l.scenario) (take l.one-index l.one-items)
