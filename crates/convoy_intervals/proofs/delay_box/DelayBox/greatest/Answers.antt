use Rattle.std.proofs.Common.{ap, ◌∙◌}
use Rattle.convoy_packets.specs.Assignment.{in_fixed_order}
use Rattle.convoy_packets.specs.Table.{greatest_delays}
use Rattle.convoy_intervals.proofs.Members.{IsIn-from_greatest}
use Rattle.convoy_intervals.proofs.delay_box.DelayBox.greatest.Goals as goal

pub returns-clause-member : goal.returns-clause-member
returns-clause-member c =
    let value = c.of.ensures ∙ ap in_fixed_order (c.in_ok-delays.ensures ∙ ap greatest_delays c.deref.ensures.value) in
    rw (← c.self.view_is) (IsIn-from_greatest _ _ c.self.invariant value)
