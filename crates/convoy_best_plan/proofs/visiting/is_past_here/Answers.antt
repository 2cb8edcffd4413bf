use Rattle.std.proofs.Common.{◌≡◌, ℕ, List, Option, Some, sym, subst}
use Rattle.convoy_scenario.specs.Scenario.{Scenario}
use Rattle.convoy_best_order.specs.declared.target.Target.{Target}
use Rattle.convoy_best_plan.specs.declared.floor.Floor.{Floor}
use Rattle.convoy_best_plan.specs.declared.planned.Planned.{Planned}
use Rattle.convoy_best_plan.specs.BestPlans.{IsExceeded, reach_of}
use Rattle.convoy_best_plan.specs.Floors.{excess_at}
use Rattle.convoy_best_plan.specs.Standings.{IsOutdone}
use Rattle.convoy_best_plan.specs.Totals.{total_of}
use Rattle.convoy_best_plan.proofs.visiting.is_past_here.Goals as goal

-- where no order is below what the choice keeps
outdone_by : (chosen : Option Planned) (planned : Planned) (scenario : Scenario) (targets : List Target) (reach : Floor) (total : ℕ) → chosen ≡ Some planned
    → reach ≡ reach_of planned → total ≡ total_of scenario → IsExceeded scenario targets (excess_at reach total) → IsOutdone chosen scenario targets
outdone_by chosen planned scenario targets reach total is own all past =
    subst (λ (some : Option Planned). IsOutdone some scenario targets) (sym is)
    (subst (λ (n : ℕ). IsExceeded scenario targets (excess_at (reach_of planned) n)) all
    (subst (λ (floor : Floor). IsExceeded scenario targets (excess_at floor total)) own past))

pub returns-in_ok-exceeded-in-Some-clause-outdone : goal.returns-in_ok-exceeded-in-Some-clause-outdone
returns-in_ok-exceeded-in-Some-clause-outdone c = λ is. outdone_by c.args.standing.now.chosen c.in-Some.planned c.args.scenario.now c.args.targets.now c.reach-reach.result c.total_of-total.result c.in-Some.is c.reach-reach.ensures c.total_of-total.ensures (c.in_ok-exceeded-in-Some.ensures is)
