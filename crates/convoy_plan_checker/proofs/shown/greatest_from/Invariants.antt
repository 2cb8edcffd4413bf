use Rattle.std.proofs.Common.{◌≡◌, drop, fold}
use Rattle.convoy_best_order.specs.Excesses.{greater}
use Rattle.convoy_plan_checker.proofs.shown.greatest_from.Given as goal

-- the greatest so far with those to come is that of all
abbrev pub invariant-loop-excess : goal.invariant-loop-excess
invariant-loop-excess l = fold greater l.greatest (drop l.excess-index l.others) ≡ fold greater l.fn.first l.others
