use Rattle.std.proofs.Common.{◌≡◌, ◌++◌, drop, Ok}
use Rattle.convoy_lines.specs.Results.{◌>>=◌}
use Rattle.convoy_toml.specs.Slow.{links_of_messages}
use Rattle.convoy_toml.proofs.slow.links_of_multicasts.Given as goal

abbrev pub invariant-loop-number : goal.invariant-loop-number
invariant-loop-number l =
    links_of_messages l.scenario l.scenario.messages ≡ (links_of_messages l.scenario (drop l.number l.scenario.messages) >>= λ rest. Ok (l.links.items ++ rest))
