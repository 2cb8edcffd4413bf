use Rattle.convoy_branch.proofs.FrontUppers.{IsUpperOf-none}
use Rattle.convoy_branch.proofs.front_laws.uppers_begin.Goals as goal

pub returns : goal.returns
returns c bounds scenario best = IsUpperOf-none bounds scenario best
