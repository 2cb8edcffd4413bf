use Rattle.std.proofs.Common.{◌≡◌, ◌||◌, true, false, IfOk, subst}
use Rattle.convoy_sure.specs.Windows.{tables_by}
use Rattle.convoy_sure.specs.SureLeads.{Sure}
use Rattle.convoy_starts.specs.Tests.{is_less_elsewhere}
use Rattle.convoy_leads.proofs.facts.Facts.is_led_behind.Goals as goal

pub returns : goal.returns
returns c =
    let scenario = c.args.self.now.scenario.now in
    let tables = tables_by c.args.windows.now in
    subst (λ (sure : Sure). IfOk c.is_less_either.result
    (λ led. led ≡ (is_less_elsewhere scenario tables sure false || is_less_elsewhere scenario tables sure true)))
    c.in_ok-sure.ensures c.is_less_either.ensures
