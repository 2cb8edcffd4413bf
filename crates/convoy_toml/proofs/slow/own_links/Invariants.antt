use Rattle.std.proofs.Common.{◌≡◌, ◌++◌, drop, Ok}
use Rattle.convoy_lines.specs.Results.{◌>>=◌}
use Rattle.convoy_toml.specs.Slow.{own_links}
use Rattle.convoy_toml.proofs.slow.own_links.Given as goal

abbrev pub invariant-loop-to : goal.invariant-loop-to
invariant-loop-to l =
    own_links l.scenario l.multicast l.longer l.multicast.to ≡ (own_links l.scenario l.multicast l.longer (drop l.to-index l.multicast.to) >>= λ rest. Ok (l.links.items ++ rest))
