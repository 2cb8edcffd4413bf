use Rattle.convoy_branch.proofs.FrontTrees.{no_stamps-whole}
use Rattle.convoy_branch.proofs.front_laws.plain_fronts_have_no_stamps.Goals as goal

pub returns : goal.returns
returns c scenario best nodes none fronts = no_stamps-whole scenario best nodes none fronts
