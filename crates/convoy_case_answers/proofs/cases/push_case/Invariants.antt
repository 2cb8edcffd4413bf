use Rattle.std.proofs.Common.{◌≡◌, ◌++◌, map, take}
use Rattle.convoy_case_answers.specs.Cases.{asked_in}
use Rattle.convoy_case_answers.proofs.cases.push_case.Given as goal

abbrev pub invariant-loop-target : goal.invariant-loop-target
invariant-loop-target l = l.cases.items ≡ l.initial.cases.items ++ map (asked_in l.late l.asked l.case) (take l.target-index l.targets)
