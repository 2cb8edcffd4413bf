use Rattle.convoy_checker.proofs.Faults.{checked_valid}
use Rattle.convoy_checker.proofs.tree_laws.checked_is_valid.Goals as goal

pub returns : goal.returns
returns c certificate = checked_valid certificate
