use Rattle.convoy_share.proofs.Placings.{IsPlacing-start}
use Rattle.convoy_share.proofs.shared_tree_laws.trees_are_placed.Goals as goal

pub returns : goal.returns
returns c = IsPlacing-start
