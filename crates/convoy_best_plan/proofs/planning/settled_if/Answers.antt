use Rattle.std.proofs.Common.{Option, subst}
use Rattle.convoy_best_plan.specs.declared.planned.Planned.{Planned}
use Rattle.convoy_best_plan.specs.Standings.{IsPassed, IsStanding}
use Rattle.convoy_best_plan.proofs.planning.settled_if.Goals as goal

pub returns-in-None : goal.returns-in-None
returns-in-None g c = λ placement is new. subst (λ (chosen : Option Planned). IsPassed c.args.wanted c.args.plan.now chosen placement) c.in-None.is (c.requires.passed placement is new)

pub settled-requires-clause-found : goal.settled-requires-clause-found
settled-requires-clause-found g c κs within = subst (IsStanding c.args.options.now c.args.wanted c.args.plan.now c.args.told.now) c.in-Some.is c.requires.standing

pub settled-requires-clause-passed : goal.settled-requires-clause-passed
settled-requires-clause-passed g c κs within = λ placement is new.
    subst (λ (chosen : Option Planned). IsPassed c.args.wanted c.args.plan.now chosen placement) c.in-Some.is (c.requires.passed placement is new)
