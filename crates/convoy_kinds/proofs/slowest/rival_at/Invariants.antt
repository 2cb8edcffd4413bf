use Rattle.std.proofs.Common.{◌≡◌, ◌-◌, ◌==◌}
use Rattle.convoy_scenario.specs.Scenario.{message_at, is_addressed}
use Rattle.convoy_ceiling.specs.Ceiling.{longest_after, longest_from_arrival}
use Rattle.convoy_kinds.specs.Ceilings.{rival_at}
use Rattle.convoy_kinds.specs.Kinds.{all_kinds}
use Rattle.convoy_kinds.proofs.FirstPassing.{first_passing}
use Rattle.convoy_kinds.proofs.slowest.rival_at.Given as goal

abbrev pub invariant-loop-kind : goal.invariant-loop-kind
invariant-loop-kind l =
    first_passing (λ n. is_addressed (message_at (all_kinds l.kinds) n) l.group)
    (λ n. longest_from_arrival (all_kinds l.kinds) l.group n == longest_after (all_kinds l.kinds) l.group)
    l.kind (l.kind-end - l.kind)
    ≡ rival_at l.kinds l.group
