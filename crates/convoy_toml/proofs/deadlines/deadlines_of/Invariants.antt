use Rattle.std.proofs.Common.{◌≡◌, ◌++◌, drop, Ok}
use Rattle.convoy_lines.specs.Results.{◌>>=◌}
use Rattle.convoy_toml.specs.Deadlines.{deadlines_of}
use Rattle.convoy_toml.proofs.deadlines.deadlines_of.Given as goal

abbrev pub invariant-loop-multicast : goal.invariant-loop-multicast
invariant-loop-multicast l =
    deadlines_of l.at_most l.has_durations l.tick l.multicasts
    ≡ (deadlines_of l.at_most l.has_durations l.tick (drop l.multicast-index l.multicasts) >>= λ rest. Ok (l.deadlines.items ++ rest))
