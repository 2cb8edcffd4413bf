use Rattle.std.proofs.Common.{All, drop}
use Rattle.convoy_best_order.specs.Targets.{MayBeTarget}
use Rattle.convoy_plan_checker.specs.PlanValidity.{AreShown}
use Rattle.convoy_plan_checker.proofs.shown.check_shown.Given as goal

-- all certificates are right just where those to come are
abbrev pub invariant-loop-number : goal.invariant-loop-number
invariant-loop-number l = record {
  valid : AreShown l.scenario l.order l.rest (drop l.number l.shown) → AreShown l.scenario l.order l.targets l.shown;
  only : AreShown l.scenario l.order l.targets l.shown → AreShown l.scenario l.order l.rest (drop l.number l.shown);
  may : All (MayBeTarget l.scenario) l.rest;
}
