use Rattle.std.proofs.Common.{◌≡◌, ◌∷◌, ◌++◌, drop, flat_map}
use Rattle.convoy_best_plan.specs.PlanTexts.{block, blocks}
use Rattle.convoy_best_plan.proofs.ranking.blocks.Given as goal

-- the texts so far and those of the choices that are left are all of them
abbrev pub invariant-loop-planned : goal.invariant-loop-planned
invariant-loop-planned l =
    l.text.items ++ flat_map (λ planned. 10 ∷ block l.with_reasons l.unit l.plan planned) (drop l.planned-index l.others)
    ≡ blocks l.with_reasons l.unit l.plan l.best l.others
