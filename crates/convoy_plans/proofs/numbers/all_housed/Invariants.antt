use Rattle.std.proofs.Common.{◌≡◌, map, take}
use Rattle.convoy_plans.specs.Numbering.{housed_in}
use Rattle.convoy_plans.proofs.numbers.all_housed.Given as goal

abbrev pub invariant-loop-group : goal.invariant-loop-group
invariant-loop-group l = l.lists.items ≡ map (housed_in l.sites l.homes) (take l.group-index l.groups)
