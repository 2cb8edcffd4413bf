use Rattle.std.proofs.Common.{◌≡◌, ◌∷◌, ◌++◌, take, flat_map, string_bytes}
use Rattle.convoy_scenario.specs.Scenario.{group_name_at}
use Rattle.convoy_best_order.proofs.naming.push_others.Given as goal

-- the names so far, after those before
abbrev pub invariant-loop-group : goal.invariant-loop-group
invariant-loop-group l =
    string_bytes l.words ≡ string_bytes l.initial.words ++ flat_map (λ h. 32 ∷ group_name_at l.scenario h) (take l.group-index l.others)
