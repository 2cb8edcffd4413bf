use Rattle.convoy_share.proofs.Endings.{IsFront-filled}
use Rattle.convoy_share.proofs.shared_tree_laws.open_trees_are_fronts.Goals as goal

pub returns : goal.returns
returns c = IsFront-filled
