use Rattle.std.proofs.Common.{◌≡◌, drop}
use Rattle.convoy_plan_ceilings.specs.LeastCeilings.{worst_after}
use Rattle.convoy_plan_ceilings.proofs.measuring.worst_after.Given as goal

-- the greatest of that so far and the rows that are left is that of all
abbrev pub invariant-loop-row : goal.invariant-loop-row
invariant-loop-row l = worst_after l.worst (drop l.row-index l.rows) ≡ worst_after l.fn.worst l.rows
