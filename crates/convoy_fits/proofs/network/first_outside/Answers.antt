use Rattle.convoy_fits.specs.Departures.{IsOutside}
use Rattle.convoy_fits.proofs.Compared.{earlier_holds}
use Rattle.convoy_fits.proofs.network.first_outside.Goals as goal

pub loop-one-preserved : goal.loop-one-preserved
loop-one-preserved c =
    rw c.earlier-known.ensures
    (earlier_holds (IsOutside c.args.skew c.args.scenario.now c.args.trace.now) c.loop-one.known c.outside_at.result c.loop-one.invariant c.outside_at.ensures)
