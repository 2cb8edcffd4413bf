use Rattle.std.proofs.Common.{◌≡◌, take}
use Rattle.convoy_fits.proofs.corrected.copied.Given as goal

-- those so far
abbrev pub invariant-loop-one : goal.invariant-loop-one
invariant-loop-one l = l.told.items ≡ take l.one-index l.one-items
