use Rattle.std.proofs.Common.{◌≡◌, ◌-◌, nat_le}
use Rattle.convoy_scenario.specs.Scenario.{message_at, is_addressed}
use Rattle.convoy_packets.specs.Table.{least_of}
use Rattle.convoy_sim.specs.Times.{arrive, settle}
use Rattle.convoy_intervals.specs.Boxes.{greatest_of}
use Rattle.convoy_intervals.proofs.Rivals.{greatest_passing}
use Rattle.convoy_intervals.proofs.bounds.bound.Given as goal

abbrev pub invariant-loop-message : goal.invariant-loop-message
invariant-loop-message l =
    let group = l.instance.target_group in
    let from = greatest_passing (λ n. is_addressed (message_at l.instance n) group) (λ n. nat_le (arrive l.instance (least_of l.delay_box) n group) l.committed) (λ n. settle l.instance (greatest_of l.delay_box) n group) in
    from l.last l.message (l.message-end - l.message) ≡ from l.committed 0 l.message-end
