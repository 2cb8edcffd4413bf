use Rattle.std.proofs.Common.{◌≡◌, map}
use Rattle.std.specs.List.{range_with_len}
use Rattle.convoy_sweep.specs.Values.{given_at}
use Rattle.convoy_sweep.proofs.values.givens.Given as goal

abbrev pub invariant-loop-place : goal.invariant-loop-place
invariant-loop-place l = l.givens.items ≡ map (given_at l.envelope l.range) (range_with_len 0 l.place)
