use Rattle.convoy_origin.proofs.Exact.{widened_exact}
use Rattle.convoy_origin.proofs.widened_laws.widened_is_exact.Goals as goal

pub returns : goal.returns
returns c = widened_exact
