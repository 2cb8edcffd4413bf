use Rattle.convoy_plan_ceilings.specs.Leasts.{AreLeasts}
use Rattle.convoy_plan_ceilings.proofs.learning.learn.Given as goal

-- what is known so far is so
abbrev pub invariant-loop-message : goal.invariant-loop-message
invariant-loop-message l = AreLeasts l.plan l.leasts.items
