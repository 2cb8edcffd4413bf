use Rattle.std.proofs.Common.{◌≡◌, ◌++◌, drop, Ok}
use Rattle.convoy_lines.specs.Results.{◌>>=◌}
use Rattle.convoy_sweep.specs.Points.{all_made}
use Rattle.convoy_sweep.proofs.preparing.all_made.Given as goal

abbrev pub invariant-loop-point : goal.invariant-loop-point
invariant-loop-point l =
    all_made l.asked.around l.sweep l.written l.points ≡ (all_made l.asked.around l.sweep l.written (drop l.point-index l.points) >>= λ rest. Ok (l.made.items ++ rest))
