use Rattle.std.proofs.Common.{IsTrue, ap, subst, ◌∙◌}
use Rattle.convoy_scenario.specs.Widened.{widened}
use Rattle.convoy_finishes.proofs.Told.{closing_told}
use Rattle.convoy_finishes.proofs.closing.closes_finishing.Goals as goal

pub returns-clause-value : goal.returns-clause-value
returns-clause-value c =
    let test = c.in_ok-test.test in
    c.in_ok-closed.ensures
    ∙ closing_told c.args.instance.now c.in_origin.result.now test.instance.now test.leads.windows c.args.ways.now test.ways.now c.args.latency
    c.in_ok-test.ensures.instance (c.in_origin.ensures ∙ ap widened c.in_ok-origin.ensures) c.in_ok-test.ensures.windows c.in_ok-test.ensures.ways

pub returns-clause-holds : goal.returns-clause-holds
returns-clause-holds c told =
    c.closed_finishing.ensures c.args.instance.now c.args.ways.now c.args.latency c.scenario-scenario.ensures.lawful (subst IsTrue (returns-clause-value c) told)
