use Rattle.std.proofs.Common.{◌≡◌, ◌++◌, flat_map}
use Rattle.std.specs.List.{range_with_len}
use Rattle.convoy_plans.specs.Placements.{link_to}
use Rattle.convoy_plans.proofs.placements.push_links_from.Given as goal

abbrev pub invariant-loop-group : goal.invariant-loop-group
invariant-loop-group l =
    l.links.items ≡ l.initial.links.items ++ flat_map (link_to l.plan l.placement l.spot) (range_with_len 0 l.group)
