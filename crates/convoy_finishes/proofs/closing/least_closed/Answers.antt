use Rattle.std.proofs.Common.{ap, sym, ◌∙◌}
use Rattle.convoy_scenario.specs.Widened.{widened}
use Rattle.convoy_finishes.proofs.Told.{closing_told}
use Rattle.convoy_finishes.proofs.closing.least_closed.Goals as goal

pub returns-then-closed-clause-closed : goal.returns-then-closed-clause-closed
returns-then-closed-clause-closed c =
    let test = c.in_ok-test.test in
    sym (closing_told c.args.instance.now c.in_origin.result.now test.instance.now test.leads.windows c.args.ways.now test.ways.now c.args.from
    c.in_ok-test.ensures.instance (c.in_origin.ensures ∙ ap widened c.in_ok-origin.ensures) c.in_ok-test.ensures.windows c.in_ok-test.ensures.ways)
    ∙ sym c.in_ok-closed.ensures
    ∙ c.if-closed.true

pub returns-then-closed-clause-holds : goal.returns-then-closed-clause-holds
returns-then-closed-clause-holds c =
    c.closed_finishing.ensures c.args.instance.now c.args.ways.now c.args.from c.scenario-scenario.ensures.lawful (returns-then-closed-clause-closed c)

pub returns-clause-closed : goal.returns-clause-closed
returns-clause-closed c =
    let test = c.in_ok-test.test in
    sym (closing_told c.args.instance.now c.in_origin.result.now test.instance.now test.leads.windows c.args.ways.now test.ways.now c.in_ok-latency.latency
    c.in_ok-test.ensures.instance (c.in_origin.ensures ∙ ap widened c.in_ok-origin.ensures) c.in_ok-test.ensures.windows c.in_ok-test.ensures.ways)
    ∙ c.in_ok-latency.ensures

pub returns-clause-holds : goal.returns-clause-holds
returns-clause-holds c =
    c.closed_finishing.ensures c.args.instance.now c.args.ways.now c.in_ok-latency.latency c.scenario-scenario.ensures.lawful (returns-clause-closed c)
