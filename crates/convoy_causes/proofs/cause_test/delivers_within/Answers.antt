use Rattle.std.proofs.Common.{◌∙◌}
use Rattle.convoy_causes.proofs.Told.{asked_told}
use Rattle.convoy_causes.proofs.cause_test.delivers_within.Goals as goal

pub returns : goal.returns
returns c =
    c.in_ok-delivered.ensures
    ∙ asked_told c.in_ok-test.test.instance.now c.args.instance.now c.in_ok-test.test.leads.windows c.args.windows c.args.message c.args.within c.in_ok-test.ensures.instance
    c.in_ok-test.ensures.windows
