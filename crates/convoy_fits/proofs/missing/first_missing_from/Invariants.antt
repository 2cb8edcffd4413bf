use Rattle.std.proofs.Common.{◌≡◌, ◌-◌, length}
use Rattle.convoy_fits.specs.Tests.{first_missing_from}
use Rattle.convoy_fits.proofs.missing.first_missing_from.Given as goal

-- the first so far, and of the messages that are left
abbrev pub invariant-loop-message : goal.invariant-loop-message
invariant-loop-message l =
    first_missing_from l.finer l.run l.told l.first (length l.finer.multicasts - l.message) l.message
    ≡ first_missing_from l.finer l.run l.told l.fn.known (length l.finer.multicasts) 0
