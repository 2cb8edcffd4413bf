use Rattle.convoy_branch.proofs.FrontTrees.{AreFronts-filled}
use Rattle.convoy_branch.proofs.front_laws.fronts_filled.Goals as goal

pub returns : goal.returns
returns c bounds scenario best regions branch before after front over fronts =
    AreFronts-filled bounds scenario best branch front over before after regions fronts
