use Rattle.std.proofs.Common.{◌≡◌, map, Ok}
use Rattle.convoy_rows.proofs.keys.all_values.Given as goal

-- the results so far are values
abbrev pub invariant-loop-result : goal.invariant-loop-result
invariant-loop-result g l = l.yielded ≡ map Ok l.values.items
