use Rattle.std.proofs.Common.{◌≡◌, ◌++◌, drop, Ok}
use Rattle.convoy_lines.specs.Results.{◌>>=◌}
use Rattle.convoy_toml.specs.Times.{bundles_of}
use Rattle.convoy_toml.proofs.times.bundles_of.Given as goal

abbrev pub invariant-loop-link : goal.invariant-loop-link
invariant-loop-link l =
    bundles_of l.tick l.links ≡ (bundles_of l.tick (drop l.link-index l.links) >>= λ rest. Ok (l.bundles.items ++ rest))
