use Rattle.convoy_laws.proofs.Stretched.{greatest_in_finer}
use Rattle.convoy_laws.proofs.finer.greatest_in_finer_ticks.Goals as goal

pub returns : goal.returns
returns c times scenario finer latency well real finer_real is same greatest =
    greatest_in_finer c.whole_ticks_are_enough.ensures c.packets_are_those_sent.ensures c.arrives_before_commit.ensures
    times scenario finer latency well real finer_real is same greatest
