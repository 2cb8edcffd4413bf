use Rattle.std.proofs.Common.{◌≡◌}
use Rattle.convoy_case_answers.specs.Cases.{asked_cases}
use Rattle.convoy_case_answers.proofs.cases.asked_cases.Given as goal

abbrev pub invariant-loop-case : goal.invariant-loop-case
invariant-loop-case l = l.cases.items ≡ asked_cases l.late l.asked l.targets l.case
