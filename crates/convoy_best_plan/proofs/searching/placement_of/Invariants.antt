use Rattle.std.proofs.Common.{◌≡◌, map, take, Some}
use Rattle.convoy_best_plan.proofs.searching.placement_of.Given as goal

-- the sites so far are those of the groups so far
abbrev pub invariant-loop-site : goal.invariant-loop-site
invariant-loop-site l = map (λ site. Some site) l.placement.items ≡ take l.site-index l.sites
