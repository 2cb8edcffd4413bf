use Rattle.convoy_branch.proofs.FrontTrees.{IsTree-whole}
use Rattle.convoy_branch.proofs.front_laws.whole_fronts_are_trees.Goals as goal

pub returns : goal.returns
returns c bounds scenario best nodes none fronts = IsTree-whole bounds scenario best nodes none fronts
