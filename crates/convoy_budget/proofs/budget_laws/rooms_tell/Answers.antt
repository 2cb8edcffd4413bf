use Rattle.convoy_budget.proofs.Telling.{rooms_tell}
use Rattle.convoy_budget.proofs.budget_laws.rooms_tell.Goals as goal

pub returns : goal.returns
returns c = rooms_tell
