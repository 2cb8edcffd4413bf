use Rattle.convoy_fits.proofs.Outside.{never}
use Rattle.convoy_fits.proofs.fits_laws.outside_never_fits.Goals as goal

pub returns : goal.returns
returns c = λ skew scenario trace departure latency outside fits.
    never c.delays_are_within.ensures c.unsent_takes_no_time.ensures c.waits_are_at_most.ensures skew scenario trace latency fits departure outside
