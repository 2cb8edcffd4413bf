use Rattle.std.proofs.Common.{◌≡◌, map, take, get_or}
use Rattle.convoy_plans.proofs.read.first_placement.Given as goal

abbrev pub invariant-loop-sites : goal.invariant-loop-sites
invariant-loop-sites l = l.placement.items ≡ map (λ sites. get_or sites 0 0) (take l.sites-index l.plan.housed)
