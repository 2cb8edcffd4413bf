use Rattle.convoy_sim.proofs.FixedRanks.{fixed_ranks}
use Rattle.convoy_sim.proofs.protocol_laws.fixed_ranks_are_none.Goals as goal

pub returns : goal.returns
returns c = fixed_ranks
