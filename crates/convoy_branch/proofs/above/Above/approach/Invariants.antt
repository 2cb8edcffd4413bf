use Rattle.convoy_branch.specs.Aims.{HasRisen}
use Rattle.convoy_branch.proofs.above.Above.approach.Given as goal

abbrev pub invariant-loop : goal.invariant-loop
invariant-loop g l = HasRisen l.fn.self l.self
