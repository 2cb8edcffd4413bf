use Rattle.std.proofs.Common.{length}
use Rattle.convoy_share.proofs.running.+fn-run-join+arg3+run.Given as goal

abbrev pub decreases-join+arg3 : goal.decreases-join+arg3
decreases-join+arg3 g l = length l.thieves.items

abbrev pub decreases-run : goal.decreases-run
decreases-run g l = length l.thieves.items
