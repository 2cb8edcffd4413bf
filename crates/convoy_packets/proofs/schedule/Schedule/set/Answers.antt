use Rattle.convoy_packets.proofs.Ranges.{AreWithin-set}
use Rattle.convoy_packets.proofs.schedule.Schedule.set.Goals as goal

pub returns-clause-within : goal.returns-clause-within
returns-clause-within c =
    rw (← c.self.view_is) (λ ranges within here. AreWithin-set ranges c.self.inside.delays.items c.args.place c.args.delay (rw (← c.self.view_is) at c.requires) within here)
