use Rattle.convoy_branch.proofs.FrontUppers.{IsUpperOf-cons}
use Rattle.convoy_branch.proofs.front_laws.uppers_raised.Goals as goal

pub returns : goal.returns
returns c bounds scenario best raised region regions upper is rest =
    IsUpperOf-cons bounds scenario best raised region regions upper is rest
