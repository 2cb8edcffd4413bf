use Rattle.std.proofs.Common.{◌≡◌, drop}
use Rattle.std.specs.List.{list_all}
use Rattle.convoy_fits.specs.Limits.{is_in_time}
use Rattle.convoy_fits.proofs.limits.are_in_time.Given as goal

-- all are in time if those are that are left
abbrev pub invariant-loop-one : goal.invariant-loop-one
invariant-loop-one l = list_all (is_in_time l.scenario) (drop l.one-index l.told) ≡ list_all (is_in_time l.scenario) l.told
