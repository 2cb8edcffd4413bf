use Rattle.std.proofs.Common.{◌≤◌, ◌-◌, [], length}
use Rattle.convoy_best_plan.specs.BestPlans.{AreInTurn}
use Rattle.convoy_best_plan.proofs.planning.best_plans.Given as goal

-- the choices so far are the best ones, one after the other
abbrev pub invariant-loop-alloc : goal.invariant-loop-alloc
invariant-loop-alloc g l = record {
  in_turn : AreInTurn l.options l.wanted l.plan [] l.all.items;
  few : length l.all.items ≤ l.count;
}

abbrev pub decreases-loop-alloc : goal.decreases-loop-alloc
decreases-loop-alloc g l = l.count - length l.all.items
