use Rattle.std.proofs.Common.{◌≡◌, ◌-◌, ◌++◌, map, drop, set, Some}
use Rattle.convoy_plan_checker.proofs.group_sites.OpenSites.push_split.Given as goal

-- the sites with each of the last homes stand in front
abbrev pub invariant-loop-done : goal.invariant-loop-done
invariant-loop-done l = l.self ≡ map (λ site. set l.sites l.group (Some site)) (drop (l.count - l.done) l.homes) ++ l.fn.self
