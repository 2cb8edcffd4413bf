use Rattle.convoy_kinds.proofs.PairTraffic.{of_kinds}
use Rattle.convoy_kinds.proofs.kind_laws.traffic_of_pairs_is_of_kinds.Goals as goal

pub returns : goal.returns
returns c = of_kinds
