use Rattle.std.proofs.Common.{◌≡◌, map}
use Rattle.convoy_best_plan.specs.PlanTexts.{as_told}
use Rattle.convoy_best_plan.proofs.ranking.all_as_told.Given as goal

abbrev pub invariant-loop-planned : goal.invariant-loop-planned
invariant-loop-planned l = l.told.items ≡ map as_told l.yielded
