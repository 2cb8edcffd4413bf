-- Rules that are asked one list after the other.
use Rattle.std.proofs.Common.{◌≡◌, true, false, List, [], ◌∷◌, ◌++◌, Result, Ok, Err}
use Rattle.convoy_draft.specs.declared.fault.ScenarioFault.{ScenarioFault}
use Rattle.convoy_draft.specs.Checks.{Check, judge}

-- a fault of the first rules is that of all
pub judge_fault : (first then : List Check) (fault : ScenarioFault) → Err fault ≡ judge first → Err fault ≡ judge (first ++ then)
judge_fault [] then fault e = cc
judge_fault ((true, told) ∷ first) then fault e = judge_fault first then fault e
judge_fault ((false, told) ∷ first) then fault e = e

-- where the first rules hold, the others decide
pub judge_rest : (first then : List Check) (answer : Result (Unit {0}) ScenarioFault) → Ok tt ≡ judge first → answer ≡ judge then → answer ≡ judge (first ++ then)
judge_rest [] then answer e is = is
judge_rest ((true, told) ∷ first) then answer e is = judge_rest first then answer e is
judge_rest ((false, told) ∷ first) then answer e is = cc
