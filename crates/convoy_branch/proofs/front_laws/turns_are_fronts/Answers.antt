use Rattle.convoy_branch.proofs.FrontTrees.{AreFronts-turned}
use Rattle.convoy_branch.proofs.front_laws.turns_are_fronts.Goals as goal

pub returns : goal.returns
returns c bounds scenario best branch turn is = AreFronts-turned bounds scenario best branch turn is
