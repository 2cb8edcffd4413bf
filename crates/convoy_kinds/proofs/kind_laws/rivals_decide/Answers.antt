use Rattle.convoy_kinds.proofs.Paired.{all_decided}
use Rattle.convoy_kinds.proofs.kind_laws.rivals_decide.Goals as goal

pub returns : goal.returns
returns c = all_decided
