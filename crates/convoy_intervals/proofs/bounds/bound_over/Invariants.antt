use Rattle.std.proofs.Common.{◌≡◌, ◌-◌, nat_le}
use Rattle.convoy_scenario.specs.Scenario.{message_at, is_addressed}
use Rattle.convoy_intervals.specs.Spans.{tables_in}
use Rattle.convoy_intervals.proofs.Rivals.{greatest_passing}
use Rattle.convoy_intervals.proofs.bounds.bound_over.Given as goal

abbrev pub invariant-loop-message : goal.invariant-loop-message
invariant-loop-message l =
    let group = l.instance.target_group in
    let tables = tables_in l.instance l.spans in
    let from = greatest_passing (λ n. is_addressed (message_at l.instance n) group) (λ n. nat_le (tables.least_arrival n group) l.committed) (λ n. tables.greatest_settling n group) in
    from l.last l.message (l.message-end - l.message) ≡ from l.committed 0 l.message-end
