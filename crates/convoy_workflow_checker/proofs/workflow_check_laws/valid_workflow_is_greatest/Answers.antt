use Rattle.convoy_workflow_checker.proofs.Greatest.{valid_is_greatest}
use Rattle.convoy_workflow_checker.proofs.workflow_check_laws.valid_workflow_is_greatest.Goals as goal

pub returns : goal.returns
returns c = valid_is_greatest c.closed_by_causes.ensures c.met_upper_is_greatest.ensures
