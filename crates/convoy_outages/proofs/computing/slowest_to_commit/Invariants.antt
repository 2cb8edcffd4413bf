use Rattle.std.proofs.Common.{◌≡◌, ◌-◌, ◌≤◌}
use Rattle.convoy_scenario.specs.Scenario.{message_at, is_addressed}
use Rattle.convoy_ceiling.specs.Ceiling.{longest_to_commit}
use Rattle.convoy_ceiling.proofs.Passing.{greatest_passing}
use Rattle.convoy_outages.proofs.computing.slowest_to_commit.Given as goal

abbrev pub invariant-loop-message : goal.invariant-loop-message
invariant-loop-message l =
    let from = greatest_passing (λ n. is_addressed (message_at l.scenario n) l.group) (λ n. longest_to_commit l.scenario n l.group) in
    record {
      value : from l.longest l.message (l.message-end - l.message) ≡ from 0 0 l.message-end;
      fits : l.longest ≤ 131070;
    }
