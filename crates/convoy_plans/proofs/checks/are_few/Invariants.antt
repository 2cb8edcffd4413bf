use Rattle.std.proofs.Common.{◌≡◌, ◌*◌, ◌^◌, ◌-◌, min, drop}
use Rattle.convoy_plans.specs.Checks.{placement_count}
use Rattle.convoy_plans.proofs.checks.are_few.Given as goal

abbrev pub invariant-loop-sites : goal.invariant-loop-sites
invariant-loop-sites l =
    min (l.count * placement_count (drop l.sites-index l.housed)) (2 ^ 64 - 1) ≡ min (placement_count l.housed) (2 ^ 64 - 1)
