use Rattle.std.proofs.Common.{◌≡◌, ◌++◌, map}
use Rattle.std.specs.List.{range_with_len}
use Rattle.convoy_plans.specs.Placements.{group_spot}
use Rattle.convoy_plans.proofs.placements.push_groups.Given as goal

abbrev pub invariant-loop-group : goal.invariant-loop-group
invariant-loop-group l =
    l.all.items ≡ l.initial.all.items ++ map (group_spot l.plan l.placement) (range_with_len 0 l.group)
