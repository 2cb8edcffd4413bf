use Rattle.convoy_branch.specs.Fronts.{front_below, IsOfFront}
use Rattle.convoy_checker.proofs.TreeLaws.{AreTrees-append}
use Rattle.convoy_branch.proofs.front_laws.fronts_append.Goals as goal

pub returns : goal.returns
returns c bounds scenario best regions others first rest fronts more =
    AreTrees-append (front_below scenario) (IsOfFront bounds scenario best) regions others first rest fronts more
