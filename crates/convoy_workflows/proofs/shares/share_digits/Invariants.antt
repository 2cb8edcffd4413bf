use Rattle.std.proofs.Common.{◌≡◌, ◌≤◌, length}
use Rattle.convoy_toml.specs.declared.share.TheConstants.{WHOLE_SHARE}
use Rattle.convoy_toml.specs.Shares.{share_digits}
use Rattle.convoy_workflows.proofs.shares.share_digits.Given as goal

abbrev pub invariant-loop-byte : goal.invariant-loop-byte
invariant-loop-byte l = (share_digits 100000000 l.before l.text ≡ share_digits l.worth l.total l.rest) × (l.worth ≤ 100000000) × (l.total ≤ WHOLE_SHARE)

abbrev pub decreases-loop-byte : goal.decreases-loop-byte
decreases-loop-byte l = length l.rest
