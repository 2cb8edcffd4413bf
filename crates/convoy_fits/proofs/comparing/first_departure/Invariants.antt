use Rattle.std.proofs.Common.{◌≡◌, None, drop}
use Rattle.convoy_fits.specs.Tests.{first_departure}
use Rattle.convoy_fits.proofs.comparing.first_departure.Given as goal

-- the first so far, and of what is left
abbrev pub invariant-loop-one : goal.invariant-loop-one
invariant-loop-one l =
    first_departure l.finer l.schedule l.run l.network l.known (drop l.one-index l.told) ≡ first_departure l.finer l.schedule l.run l.network None l.told
