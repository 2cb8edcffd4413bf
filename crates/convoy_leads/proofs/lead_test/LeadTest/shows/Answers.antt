use Rattle.std.proofs.Common.{◌≡◌, IfOk, subst}
use Rattle.convoy_leads.specs.Closing.{Tested, closes_over}
use Rattle.convoy_leads.specs.Openings.{is_closed}
use Rattle.convoy_leads.proofs.lead_test.LeadTest.shows.Goals as goal

pub returns-clause-closed : goal.returns-clause-closed
returns-clause-closed c =
    let told = λ (test : Tested). IfOk c.shown.result (λ shown. is_closed shown ≡ closes_over test.scenario test.windows c.args.latency) in
    subst told c.self.view_is c.shown.ensures.closed
