use Rattle.std.proofs.Common.{◌≡◌, ◌<◌, ℕ}
use Rattle.convoy_finishes.specs.Finishes.{way_at}
use Rattle.convoy_finish_replies.proofs.comparing.are_same_of.Given as goal

-- the ways are the same so far
abbrev pub invariant-loop-group : goal.invariant-loop-group
invariant-loop-group l = (k : ℕ) → k < l.group → way_at l.certificate.ways l.message k ≡ way_at l.accepted.ways l.message k
