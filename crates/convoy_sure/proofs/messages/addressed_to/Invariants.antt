use Rattle.std.proofs.Common.{◌≡◌, ◌≤◌, length, filter}
use Rattle.std.specs.List.{range_with_len}
use Rattle.convoy_scenario.specs.Scenario.{message_at, is_addressed}
use Rattle.convoy_sure.proofs.messages.addressed_to.Given as goal

abbrev pub invariant-loop-message : goal.invariant-loop-message
invariant-loop-message l =
    record {
      so_far : l.messages ≡ filter (λ n. is_addressed (message_at l.scenario n) l.group) (range_with_len 0 l.message);
      few : length l.messages ≤ l.message;
    }
