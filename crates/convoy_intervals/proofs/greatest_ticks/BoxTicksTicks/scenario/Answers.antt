use Rattle.std.proofs.Common.{subst}
use Rattle.convoy_packets.specs.Assignment.{IsAssignment}
use Rattle.convoy_sim.specs.Scheduled.{Scheduled}
use Rattle.convoy_intervals.proofs.Members.{greatest_assigned}
use Rattle.convoy_intervals.proofs.greatest_ticks.BoxTicksTicks.scenario.Goals as goal

pub returns-clause-assignment : goal.returns-clause-assignment
returns-clause-assignment c =
    subst (λ (t : Scheduled). IsAssignment t.scenario t.schedule) c.self.view_is
    (greatest_assigned c.self.inside.instance.now c.self.inside.delay_box.now c.self.invariant)
