use Rattle.std.proofs.Common.{◌≡◌, ◌≤◌, length}
use Rattle.convoy_draft.specs.declared.duration.TheConstants.{LONGEST_DURATION}
use Rattle.convoy_draft.specs.Durations.{digits_before}
use Rattle.convoy_draft.proofs.duration.digits_before.Given as goal

abbrev pub invariant-loop-byte : goal.invariant-loop-byte
invariant-loop-byte l = (digits_before l.one 0 l.text ≡ digits_before l.one l.total l.rest) × (l.total ≤ LONGEST_DURATION)

abbrev pub decreases-loop-byte : goal.decreases-loop-byte
decreases-loop-byte l = length l.rest
