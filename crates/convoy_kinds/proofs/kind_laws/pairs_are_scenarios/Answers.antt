use Rattle.convoy_kinds.proofs.PairScenarios.{pairs_formed}
use Rattle.convoy_kinds.proofs.kind_laws.pairs_are_scenarios.Goals as goal

pub returns : goal.returns
returns c = pairs_formed
