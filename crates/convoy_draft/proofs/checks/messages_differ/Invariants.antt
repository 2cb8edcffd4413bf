use Rattle.std.proofs.Common.{◌≡◌, length}
use Rattle.convoy_draft.specs.Checks.{messages_differ}
use Rattle.convoy_draft.proofs.checks.messages_differ.Given as goal

abbrev pub invariant-loop-first : goal.invariant-loop-first
invariant-loop-first l = messages_differ l.rest ≡ messages_differ l.multicasts

abbrev pub decreases-loop-first : goal.decreases-loop-first
decreases-loop-first l = length l.rest
