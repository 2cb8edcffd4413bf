use Rattle.convoy_laws.proofs.Matched.{whole_enough}
use Rattle.convoy_laws.proofs.finer.whole_ticks_are_enough.Goals as goal

pub returns : goal.returns
returns c times scenario finer latency well real is upper =
    whole_enough c.finer_runs_are_matched.ensures times scenario finer latency well real is upper
