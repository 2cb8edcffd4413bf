use Rattle.convoy_workflow_checker.proofs.Origins.{known_told}
use Rattle.convoy_workflow_checker.proofs.checking.is_known.Goals as goal

pub returns : goal.returns
returns c = known_told c.args.scenario.now c.args.origin c.may_be_origin.result c.may_be_origin.ensures
