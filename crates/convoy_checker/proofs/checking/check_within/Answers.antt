use Rattle.convoy_checker.proofs.Accepting.{within_is_greatest, within_is_valid}
use Rattle.convoy_checker.proofs.checking.check_within.Goals as goal

pub returns-clause-valid : goal.returns-clause-valid
returns-clause-valid c =
    within_is_valid c.args.limit c.args.certificate.now c.check_up_to.result c.checked_is_valid.ensures c.check_up_to.ensures.exact

pub returns-clause-greatest : goal.returns-clause-greatest
returns-clause-greatest c =
    within_is_greatest c.args.limit c.args.certificate.now c.check_up_to.result c.checked_is_valid.ensures c.valid_is_greatest.ensures c.check_up_to.ensures.lawful c.check_up_to.ensures.exact
