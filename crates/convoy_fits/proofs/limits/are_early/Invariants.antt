use Rattle.std.proofs.Common.{◌≡◌, drop}
use Rattle.std.specs.List.{list_all}
use Rattle.convoy_fits.specs.Limits.{is_early}
use Rattle.convoy_fits.proofs.limits.are_early.Given as goal

-- all are early if those are that are left
abbrev pub invariant-loop-message : goal.invariant-loop-message
invariant-loop-message l = list_all (is_early l.factor) (drop l.message l.scenario.multicasts) ≡ list_all (is_early l.factor) l.scenario.multicasts
