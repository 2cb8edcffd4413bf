use Rattle.convoy_plan_ceilings.specs.Leasts.{AreLeasts}
use Rattle.convoy_plan_ceilings.proofs.learning.learn_message.Given as goal

-- what is known so far is so
abbrev pub invariant-loop-group : goal.invariant-loop-group
invariant-loop-group l = AreLeasts l.plan l.leasts.items
