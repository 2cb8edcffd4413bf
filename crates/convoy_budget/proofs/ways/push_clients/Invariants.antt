use Rattle.std.proofs.Common.{◌≡◌, ◌++◌}
use Rattle.std.specs.List.{flat_map, range_with_len}
use Rattle.convoy_scenario.specs.declared.sender.Sender.TheVariants.{Client}
use Rattle.convoy_budget.specs.Ways.{ways_from}
use Rattle.convoy_budget.proofs.ways.push_clients.Given as goal

-- the ways so far are those before and those from clients at the places so far
abbrev pub invariant-loop-place : goal.invariant-loop-place
invariant-loop-place l = l.ways.items ≡ l.initial.ways.items ++ flat_map (λ p. ways_from l.scenario (Client p)) (range_with_len 0 l.place)
