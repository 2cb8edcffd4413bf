use Rattle.std.proofs.Common.{◌≡◌, map, take}
use Rattle.convoy_plans.specs.Numbering.{places}
use Rattle.convoy_plans.proofs.numbers.all_places.Given as goal

abbrev pub invariant-loop-names : goal.invariant-loop-names
invariant-loop-names l = l.numbers.items ≡ map (places l.groups) (take l.names-index l.lists)
