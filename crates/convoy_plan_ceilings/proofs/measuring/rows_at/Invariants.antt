use Rattle.std.proofs.Common.{◌≡◌, map, take}
use Rattle.convoy_plan_ceilings.specs.LeastCeilings.{row_at}
use Rattle.convoy_plan_ceilings.proofs.measuring.rows_at.Given as goal

-- the rows of the targets so far
abbrev pub invariant-loop-target : goal.invariant-loop-target
invariant-loop-target l = l.rows.items ≡ map (row_at l.scenario) (take l.target-index l.targets)
