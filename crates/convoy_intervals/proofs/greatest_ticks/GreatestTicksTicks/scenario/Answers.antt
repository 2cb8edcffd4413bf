use Rattle.convoy_intervals.proofs.Members.{greatest_assigned}
use Rattle.convoy_intervals.proofs.greatest_ticks.GreatestTicksTicks.scenario.Goals as goal

pub returns-clause-assignment : goal.returns-clause-assignment
returns-clause-assignment c =
    greatest_assigned c.args.self.now.tracked.now.scenario c.args.self.now.tracked.now.delay_box c.delay_box-delay_box.ensures.lawful
