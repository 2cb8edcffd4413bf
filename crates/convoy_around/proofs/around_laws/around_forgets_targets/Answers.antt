use Rattle.convoy_around.proofs.AroundLemmas.{forgets}
use Rattle.convoy_around.proofs.around_laws.around_forgets_targets.Goals as goal

pub returns : goal.returns
returns c = forgets
