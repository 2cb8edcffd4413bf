use Rattle.std.proofs.Common.{take}
use Rattle.convoy_best_plan.specs.BestPlans.{IsNew}
use Rattle.convoy_best_plan.proofs.told.is_new.Given as goal

-- none of the choices so far has the placement
abbrev pub invariant-loop-planned : goal.invariant-loop-planned
invariant-loop-planned l = IsNew (take l.planned-index l.told) l.placement
