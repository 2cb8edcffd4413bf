use Rattle.std.proofs.Common.{◌≡◌, take}
use Rattle.convoy_best_plan.specs.Standings.{left_of}
use Rattle.convoy_best_plan.proofs.searching.first_group.Given as goal

-- none of the groups so far is left
abbrev pub invariant-loop-group : goal.invariant-loop-group
invariant-loop-group l = left_of (take l.group l.sites) ≡ 0
