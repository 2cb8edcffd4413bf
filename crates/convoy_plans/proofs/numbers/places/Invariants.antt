use Rattle.std.proofs.Common.{◌≡◌, map, take}
use Rattle.convoy_scenario.specs.Numbering.{place}
use Rattle.convoy_plans.proofs.numbers.places.Given as goal

abbrev pub invariant-loop-name : goal.invariant-loop-name
invariant-loop-name l = l.items.items ≡ map (λ name. place name l.others) (take l.name-index l.names)
