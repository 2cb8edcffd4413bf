use Rattle.std.proofs.Common.{◌≡◌, ◌++◌}
use Rattle.std.specs.List.{flat_map, range_with_len}
use Rattle.convoy_budget.specs.Ways.{way_to}
use Rattle.convoy_budget.proofs.ways.push_ways.Given as goal

-- the ways so far are those before and those to the groups so far
abbrev pub invariant-loop-to : goal.invariant-loop-to
invariant-loop-to l = l.ways.items ≡ l.initial.ways.items ++ flat_map (way_to l.scenario l.sender) (range_with_len 0 l.to)
