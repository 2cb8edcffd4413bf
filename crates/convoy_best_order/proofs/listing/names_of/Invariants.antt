use Rattle.std.proofs.Common.{◌≡◌, map, take}
use Rattle.convoy_scenario.specs.Scenario.{group_name_at}
use Rattle.convoy_best_order.proofs.listing.names_of.Given as goal

-- the names of the groups so far
abbrev pub invariant-loop-group : goal.invariant-loop-group
invariant-loop-group l = l.names.items ≡ map (group_name_at l.scenario) (take l.group-index l.order)
