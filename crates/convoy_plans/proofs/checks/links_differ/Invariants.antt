use Rattle.std.proofs.Common.{◌≡◌, length}
use Rattle.convoy_draft.specs.Checks.{links_differ}
use Rattle.convoy_plans.proofs.checks.links_differ.Given as goal

abbrev pub invariant-loop-first : goal.invariant-loop-first
invariant-loop-first l = links_differ l.rest ≡ links_differ l.links

abbrev pub decreases-loop-first : goal.decreases-loop-first
decreases-loop-first l = length l.rest
