use Rattle.std.proofs.Common.{◌≡◌, ◌++◌, drop, Ok}
use Rattle.convoy_lines.specs.Results.{◌>>=◌}
use Rattle.convoy_replicas.specs.Replicas.{ticks_of_groups}
use Rattle.convoy_replicas.proofs.replicas.ticks_of_groups.Given as goal

abbrev pub invariant-loop-group : goal.invariant-loop-group
invariant-loop-group l =
    ticks_of_groups l.span l.acceptances l.scenario l.groups
    ≡ (ticks_of_groups l.span l.acceptances l.scenario (drop l.group-index l.groups) >>= λ rest. Ok (l.ticks.items ++ rest))
