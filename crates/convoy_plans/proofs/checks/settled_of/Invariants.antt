use Rattle.std.proofs.Common.{◌≡◌, map, take}
use Rattle.convoy_plans.proofs.checks.settled_of.Given as goal

abbrev pub invariant-loop-home : goal.invariant-loop-home
invariant-loop-home l = l.names.items ≡ map (λ home. home.name) (take l.home-index l.plan.homes)
