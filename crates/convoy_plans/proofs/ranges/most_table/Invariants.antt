use Rattle.std.proofs.Common.{◌≡◌, map, take}
use Rattle.convoy_plans.specs.Ranges.{most_in}
use Rattle.convoy_plans.proofs.ranges.most_table.Given as goal

abbrev pub invariant-loop-from : goal.invariant-loop-from
invariant-loop-from l = l.rows.items ≡ map (λ from. map (most_in l.bundles from) l.sites) (take l.from-index l.sites)
