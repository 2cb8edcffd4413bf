use Rattle.convoy_sim.proofs.RunLaws.{runs_keep_the_laws}
use Rattle.convoy_sim.proofs.protocol_laws.runs_keep_the_laws.Goals as goal

pub returns : goal.returns
returns c scenario schedule run well assigned is = runs_keep_the_laws scenario schedule run well assigned is
