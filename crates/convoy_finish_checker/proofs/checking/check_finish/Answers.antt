use Rattle.convoy_finish_checker.proofs.Greatest.{greatest_if_valid}
use Rattle.convoy_finish_checker.proofs.checking.check_finish.Goals as goal

pub returns-clause-greatest : goal.returns-clause-greatest
returns-clause-greatest c =
    greatest_if_valid c.valid_finish_is_greatest.ensures c.args.certificate.now c.check_parts.result c.nodes-nodes.ensures.lawful c.check_parts.ensures.valid
