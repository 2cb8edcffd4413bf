use Rattle.std.proofs.Common.{◌≡◌, map, take}
use Rattle.convoy_plans.specs.Ranges.{most_in}
use Rattle.convoy_plans.proofs.ranges.most_from.Given as goal

abbrev pub invariant-loop-to : goal.invariant-loop-to
invariant-loop-to l = l.row.items ≡ map (most_in l.bundles l.from) (take l.to-index l.sites)
