use Rattle.convoy_causes.proofs.Effects.{plain_told}
use Rattle.convoy_causes.proofs.narrowing.Narrowing.plain_within.Goals as goal

pub returns : goal.returns
returns c =
    plain_told c.args.self.now.cutting.instance.now c.args.self.now.causes.now c.args.cause.now c.in_ok-ticks.ticks c.args.windows.now c.in_ok-test.test.instance.now c.args.goal.now
    c.in_ok-test.test.leads.windows c.in_ok-same.same c.in_ok-test.ensures.instance c.requires.goal c.in_ok-test.ensures.windows c.in_ok-same.ensures c.in_ok-ticks.ensures
