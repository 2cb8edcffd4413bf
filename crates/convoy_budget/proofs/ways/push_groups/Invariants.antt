use Rattle.std.proofs.Common.{◌≡◌, ◌++◌}
use Rattle.std.specs.List.{flat_map, range_with_len}
use Rattle.convoy_scenario.specs.declared.sender.Sender.TheVariants.{Group}
use Rattle.convoy_budget.specs.Ways.{ways_from}
use Rattle.convoy_budget.proofs.ways.push_groups.Given as goal

-- the ways so far are those before and those from the groups so far
abbrev pub invariant-loop-group : goal.invariant-loop-group
invariant-loop-group l = l.ways.items ≡ l.initial.ways.items ++ flat_map (λ g. ways_from l.scenario (Group g)) (range_with_len 0 l.group)
