use Rattle.std.proofs.Common.{◌≡◌, ◌<◌, ℕ, length}
use Rattle.convoy_finishes.specs.Finishes.{way_at}
use Rattle.convoy_finish_replies.proofs.comparing.are_same_ways.Given as goal

-- the ways of the messages so far are the same
abbrev pub invariant-loop-message : goal.invariant-loop-message
invariant-loop-message l =
    (m : ℕ) → m < l.message → (k : ℕ) → k < length l.accepted.scenario.groups → way_at l.certificate.ways m k ≡ way_at l.accepted.ways m k
