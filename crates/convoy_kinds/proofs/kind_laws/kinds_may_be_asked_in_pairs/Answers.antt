use Rattle.convoy_kinds.proofs.Paired.{in_pairs}
use Rattle.convoy_kinds.proofs.kind_laws.kinds_may_be_asked_in_pairs.Goals as goal

pub returns : goal.returns
returns c = in_pairs c.ceiling_holds_for_any_kinds.ensures
