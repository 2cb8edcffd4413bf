use Rattle.std.proofs.Common.{◌≡◌, ◌-◌, ◌≤◌}
use Rattle.convoy_scenario.specs.Scenario.{message_at, is_addressed}
use Rattle.convoy_ceiling.specs.Ceiling.{longest_from_arrival}
use Rattle.convoy_ceiling.proofs.Passing.{greatest_passing}
use Rattle.convoy_kinds.specs.Kinds.{all_kinds}
use Rattle.convoy_kinds.proofs.slowest.longest_after.Given as goal

abbrev pub invariant-loop-kind : goal.invariant-loop-kind
invariant-loop-kind l =
    let from = greatest_passing (λ n. is_addressed (message_at (all_kinds l.kinds) n) l.group) (longest_from_arrival (all_kinds l.kinds) l.group) in
    record {
      value : from l.longest l.kind (l.kind-end - l.kind) ≡ from 0 0 l.kind-end;
      fits : l.longest ≤ 131070;
    }
