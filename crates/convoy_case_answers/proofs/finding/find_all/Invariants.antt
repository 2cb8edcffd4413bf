use Rattle.convoy_case_answers.specs.Founds.{AreFoundUpTo}
use Rattle.convoy_case_answers.proofs.finding.find_all.Given as goal

abbrev pub invariant-loop-number : goal.invariant-loop-number
invariant-loop-number g l = AreFoundUpTo l.late l.cases l.options l.text l.number l.founds.items
