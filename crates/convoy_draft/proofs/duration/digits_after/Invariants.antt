use Rattle.std.proofs.Common.{◌≡◌, ◌≤◌, length}
use Rattle.convoy_draft.specs.declared.duration.TheConstants.{LONGEST_DURATION}
use Rattle.convoy_draft.specs.Durations.{digits_after}
use Rattle.convoy_draft.proofs.duration.digits_after.Given as goal

abbrev pub invariant-loop-byte : goal.invariant-loop-byte
invariant-loop-byte l = (digits_after l.one l.before l.text ≡ digits_after l.worth l.total l.rest) × (l.worth ≤ 1000000000) × (l.total ≤ LONGEST_DURATION)

abbrev pub decreases-loop-byte : goal.decreases-loop-byte
decreases-loop-byte l = length l.rest
