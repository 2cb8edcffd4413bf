use Rattle.convoy_checker.proofs.SplitTrees.{split_is_two_trees}
use Rattle.convoy_checker.proofs.tree_laws.split_is_two_trees.Goals as goal

pub returns : goal.returns
returns c scenario latency region packet at nodes = split_is_two_trees scenario latency region packet at nodes
