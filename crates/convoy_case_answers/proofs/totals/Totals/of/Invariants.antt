use Rattle.std.proofs.Common.{take}
use Rattle.convoy_case_answers.specs.Told.{AreTotals}
use Rattle.convoy_case_answers.proofs.totals.Totals.of.Given as goal

abbrev pub invariant-loop-found : goal.invariant-loop-found
invariant-loop-found l = AreTotals (take l.found-index l.founds) l.totals
