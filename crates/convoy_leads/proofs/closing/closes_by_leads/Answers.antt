use Rattle.std.proofs.Common.{◌≡◌, IsTrue, subst, ◌∙◌}
use Rattle.convoy_leads.specs.Closing.{Tested, closes_by_leads, closes_over}
use Rattle.convoy_leads.specs.Openings.{is_closed}
use Rattle.convoy_leads.proofs.closing.closes_by_leads.Goals as goal

pub returns-clause-value : goal.returns-clause-value
unfolding closes_by_leads
returns-clause-value c =
    c.is_closed.ensures
    ∙ subst (λ (t : Tested). is_closed c.in_ok-shown.shown ≡ closes_over t.scenario t.windows c.args.latency) c.in_ok-test.ensures c.in_ok-shown.ensures.closed

pub returns-clause-holds : goal.returns-clause-holds
returns-clause-holds c told schedule member order =
    let assigned = c.members_are_assignments.ensures c.args.instance.now c.args.delay_box.now schedule c.requires.inside member order in
    c.leads_hold.ensures c.args.instance.now c.args.delay_box.now schedule c.args.latency c.scenario-scenario.ensures.lawful assigned member
    (subst IsTrue (returns-clause-value c) told)
