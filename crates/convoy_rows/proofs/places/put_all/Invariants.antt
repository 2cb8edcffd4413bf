use Rattle.std.proofs.Common.{◌≡◌}
use Rattle.convoy_rows.specs.Rows.{with_rows}
use Rattle.convoy_rows.proofs.places.put_all.Given as goal

-- the rows so far are in their places
abbrev pub invariant-loop-pair : goal.invariant-loop-pair
invariant-loop-pair g l = l.places.items ≡ with_rows l.initial.places.items l.yielded
