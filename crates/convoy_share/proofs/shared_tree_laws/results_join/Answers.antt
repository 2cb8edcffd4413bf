use Rattle.convoy_share.proofs.Joins.{IsResult-joined}
use Rattle.convoy_share.proofs.shared_tree_laws.results_join.Goals as goal

pub returns : goal.returns
returns c = IsResult-joined c.fronts_better.ensures
