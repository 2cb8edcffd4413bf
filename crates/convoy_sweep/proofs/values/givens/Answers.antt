use Rattle.convoy_sweep.proofs.Giving.{given_more}
use Rattle.convoy_sweep.proofs.values.givens.Goals as goal

pub loop-place-preserved : goal.loop-place-preserved
loop-place-preserved c =
    given_more c.args.envelope c.args.range c.loop-place.place c.loop-place.givens.items _ c.given_at.result
    c.in_ok-push.ensures.items c.loop-place.invariant c.given_at.ensures
