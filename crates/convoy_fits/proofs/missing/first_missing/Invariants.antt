use Rattle.std.proofs.Common.{◌≡◌, drop}
use Rattle.convoy_fits.specs.Tests.{first_missing}
use Rattle.convoy_fits.proofs.missing.first_missing.Given as goal

-- the first so far, and of the groups that are left
abbrev pub invariant-loop-group : goal.invariant-loop-group
invariant-loop-group l =
    first_missing l.run l.told l.message l.first (drop l.group-index l.groups) ≡ first_missing l.run l.told l.message l.fn.known l.groups
