use Rattle.convoy_laws.proofs.Stretched.{greatest_whole}
use Rattle.convoy_laws.proofs.finer.greatest_is_whole.Goals as goal

pub returns : goal.returns
returns c times scenario finer greatest well real finer_real is same top =
    greatest_whole c.finer_runs_are_matched.ensures c.packets_are_those_sent.ensures c.arrives_before_commit.ensures
    times scenario finer greatest well real finer_real is same top
