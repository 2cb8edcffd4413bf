use Rattle.std.proofs.Common.{◌≡◌, ◌++◌, drop}
use Rattle.convoy_plan_checker.specs.PlanValidity.{excesses_of}
use Rattle.convoy_plan_checker.proofs.shown.excesses_of.Given as goal

-- the excesses so far with those to come are all
abbrev pub invariant-loop-certificate : goal.invariant-loop-certificate
invariant-loop-certificate l = l.excesses.items ++ excesses_of l.rest (drop l.certificate-index l.shown) ≡ excesses_of l.targets l.shown
