use Rattle.convoy_share.proofs.Endings.{IsTree-filled}
use Rattle.convoy_share.proofs.shared_tree_laws.whole_trees_close.Goals as goal

pub returns : goal.returns
returns c = IsTree-filled c.whole_fronts_are_trees.ensures
