use Rattle.convoy_branch.proofs.FrontUppers.{IsUpper-front}
use Rattle.convoy_branch.proofs.front_laws.fronts_bound.Goals as goal

pub returns : goal.returns
returns c bounds plan best upper tickets lawful front =
    IsUpper-front bounds plan best upper tickets c.trees_cover.ensures lawful front
