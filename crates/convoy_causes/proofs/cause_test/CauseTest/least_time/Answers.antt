use Rattle.convoy_causes.proofs.Told.{before_found}
use Rattle.convoy_causes.proofs.cause_test.CauseTest.least_time.Goals as goal

pub returns : goal.returns
returns c =
    before_found c.args.self.now.instance.now c.args.self.now.leads.windows c.args.origin c.in_ok-time.time c.plain_time-most.result c.in_ok-time.ensures c.plain_time-most.ensures
