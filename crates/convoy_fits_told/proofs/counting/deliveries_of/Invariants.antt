use Rattle.std.proofs.Common.{◌≡◌, ◌+◌, ◌*◌, ◌≤◌, drop, length}
use Rattle.std.specs.Prelude.{sum_by}
use Rattle.convoy_fits_told.specs.Words.{deliveries_of}
use Rattle.convoy_fits_told.proofs.counting.deliveries_of.Given as goal

-- those so far, and of the messages that are left
abbrev pub invariant-loop-message : goal.invariant-loop-message
invariant-loop-message l =
    (l.count + sum_by (λ message. length message.destinations) (drop l.message l.scenario.multicasts) ≡ deliveries_of l.scenario)
    × (l.count ≤ l.message * 18446744073709551615)
