use Rattle.convoy_branch.proofs.FrontTrees.{AreFronts-better}
use Rattle.convoy_branch.proofs.front_laws.fronts_better.Goals as goal

pub returns : goal.returns
returns c bounds scenario best better regions nodes above fronts =
    AreFronts-better bounds scenario best better nodes regions above fronts
