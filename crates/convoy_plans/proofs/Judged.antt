-- Rules that are asked one list after the other.
use Rattle.std.proofs.Common.{◌≡◌, Bool, true, false, cond, List, [], ◌∷◌, ◌++◌, Result, Ok, Err, refl}
use Rattle.std.specs.List.{AllByRecursion}
use Rattle.convoy_plans.specs.declared.fault.PlanFault.{PlanFault}
use Rattle.convoy_plans.specs.Checks.{PlanCheck, judge}

-- a fault of the first rules is that of all
pub judge_fault : (first then : List PlanCheck) (fault : PlanFault) → Err fault ≡ judge first → Err fault ≡ judge (first ++ then)
judge_fault [] then fault e = cc
judge_fault ((true, told) ∷ first) then fault e = judge_fault first then fault e
judge_fault ((false, told) ∷ first) then fault e = e

-- where the first rules hold, the others decide
pub judge_rest : (first then : List PlanCheck) (answer : Result (Unit {0}) PlanFault) → Ok tt ≡ judge first → answer ≡ judge then → answer ≡ judge (first ++ then)
judge_rest [] then answer e is = is
judge_rest ((true, told) ∷ first) then answer e is = judge_rest first then answer e is
judge_rest ((false, told) ∷ first) then answer e is = cc

next_holds : (b : Bool) (fault : PlanFault) (rest : Result (Unit {0}) PlanFault) → cond b rest (Err fault) ≡ Ok tt → (b ≡ true) × (rest ≡ Ok tt)
next_holds true fault rest h = (refl, h)
next_holds false fault rest h = cc

-- where no rule has a fault, each holds
pub all_hold : (rules : List PlanCheck) → judge rules ≡ Ok tt → AllByRecursion (λ rule. rule.0 ≡ true) rules
all_hold [] h = tt
all_hold (rule ∷ rules) h =
    let next = next_holds rule.0 rule.1 (judge rules) h in
    (next.0, all_hold rules next.1)
