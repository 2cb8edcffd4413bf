use Rattle.std.proofs.Common.{◌≡◌, drop}
use Rattle.std.specs.List.{list_all}
use Rattle.convoy_fits.specs.Tests.{is_kept, lag_by}
use Rattle.convoy_fits.proofs.corrected.are_kept.Given as goal

-- all are kept if those are that are left
abbrev pub invariant-loop-one : goal.invariant-loop-one
invariant-loop-one l =
    list_all (is_kept l.lags.skew (lag_by l.lags) l.scenario) (drop l.one-index l.told) ≡ list_all (is_kept l.lags.skew (lag_by l.lags) l.scenario) l.told
