use Rattle.convoy_best_plan.proofs.InTurn.{none_placed}
use Rattle.convoy_plan_proof.proofs.proving.prove_plan.Goals as goal

-- where no choice is told, no placement has a scenario
pub returns-in-None : goal.returns-in-None
returns-in-None g c = none_placed c.args.plan.now (rw c.in-None.is at c.in_ok-planned.ensures)
