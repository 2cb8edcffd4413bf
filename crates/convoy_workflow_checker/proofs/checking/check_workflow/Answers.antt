use Rattle.convoy_workflow_checker.proofs.Greatest.{greatest_if_valid}
use Rattle.convoy_workflow_checker.proofs.checking.check_workflow.Goals as goal

pub returns-clause-greatest : goal.returns-clause-greatest
returns-clause-greatest c =
    greatest_if_valid c.valid_workflow_is_greatest.ensures c.args.certificate.now c.check_parts.result c.nodes-nodes.ensures.lawful c.check_parts.ensures.valid
