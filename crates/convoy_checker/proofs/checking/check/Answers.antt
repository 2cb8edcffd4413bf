use Rattle.convoy_checker.proofs.Accepting.{accepted_is_valid, accepted_is_greatest}
use Rattle.convoy_checker.proofs.checking.check.Goals as goal

pub returns-clause-valid : goal.returns-clause-valid
returns-clause-valid c =
    accepted_is_valid c.args.certificate.now c.check_all.result c.checked_is_valid.ensures c.check_all.ensures.exact

pub returns-clause-greatest : goal.returns-clause-greatest
returns-clause-greatest c =
    accepted_is_greatest c.args.certificate.now c.check_all.result c.checked_is_valid.ensures c.valid_is_greatest.ensures c.check_all.ensures.lawful c.check_all.ensures.exact
