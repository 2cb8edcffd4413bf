use Rattle.std.proofs.Common.{◌≡◌, ◌++◌, drop, Ok}
use Rattle.convoy_lines.specs.Results.{◌>>=◌}
use Rattle.convoy_toml.specs.Times.{agreements_of}
use Rattle.convoy_toml.proofs.times.agreements_of.Given as goal

abbrev pub invariant-loop-agreement : goal.invariant-loop-agreement
invariant-loop-agreement l =
    agreements_of l.tick l.written ≡ (agreements_of l.tick (drop l.agreement-index l.written) >>= λ rest. Ok (l.agreements.items ++ rest))
