use Rattle.std.proofs.Common.{◌≡◌, drop}
use Rattle.std.specs.List.{list_all}
use Rattle.convoy_fits.specs.Runs.{is_there}
use Rattle.convoy_fits.proofs.fine_test.are_there.Given as goal

-- all are there if those are that are left
abbrev pub invariant-loop-one : goal.invariant-loop-one
invariant-loop-one l = list_all (is_there l.finer) (drop l.one-index l.told) ≡ list_all (is_there l.finer) l.told
