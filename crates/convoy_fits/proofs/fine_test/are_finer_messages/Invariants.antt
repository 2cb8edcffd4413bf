use Rattle.std.proofs.Common.{◌≡◌, drop}
use Rattle.convoy_fits.specs.Finer.{are_finer_messages}
use Rattle.convoy_fits.proofs.fine_test.are_finer_messages.Given as goal

-- all are told in fine ticks if those are that are left
abbrev pub invariant-loop-message : goal.invariant-loop-message
invariant-loop-message l =
    are_finer_messages l.factor (drop l.message l.scenario.multicasts) (drop l.message l.finer.multicasts)
    ≡ are_finer_messages l.factor l.scenario.multicasts l.finer.multicasts
