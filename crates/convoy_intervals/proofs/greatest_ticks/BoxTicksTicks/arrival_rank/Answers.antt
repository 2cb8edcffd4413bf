use Rattle.std.proofs.Common.{◌≡◌, sym, subst}
use Rattle.convoy_packets.specs.Table.{greatest_delays}
use Rattle.convoy_sim.specs.Moments.{arrival_rank}
use Rattle.convoy_sim.specs.Scheduled.{Scheduled}
use Rattle.convoy_intervals.proofs.greatest_ticks.BoxTicksTicks.arrival_rank.Goals as goal

pub returns : goal.returns
returns c =
    subst (λ (t : Scheduled). 0 ≡ arrival_rank t.scenario t.schedule c.args._message c.args._group) c.self.view_is
    (sym (c.fixed_ranks_are_none.ensures c.self.inside.instance.now (greatest_delays c.self.inside.delay_box.now) c.args._message c.args._group).0)
