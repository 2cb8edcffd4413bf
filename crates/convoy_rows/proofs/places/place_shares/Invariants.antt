use Rattle.std.proofs.Common.{◌≡◌}
use Rattle.convoy_rows.specs.Rows.{places_of}
use Rattle.convoy_rows.proofs.places.place_shares.Given as goal

-- the rows of the threads so far are in their places
abbrev pub invariant-loop-share : goal.invariant-loop-share
invariant-loop-share g l = l.places.items ≡ places_of l.fn.count l.yielded
