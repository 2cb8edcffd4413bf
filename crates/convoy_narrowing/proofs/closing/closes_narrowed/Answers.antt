use Rattle.std.proofs.Common.{◌≡◌, subst, ◌∙◌, ap}
use Rattle.convoy_sure.specs.Windows.{Windows}
use Rattle.convoy_leads.specs.Closing.{Tested, closes_over}
use Rattle.convoy_leads.specs.Openings.{is_closed}
use Rattle.convoy_narrowing.proofs.closing.closes_narrowed.Goals as goal

pub returns : goal.returns
returns c =
    c.is_closed.ensures
    ∙ subst (λ (t : Tested). is_closed c.in_ok-shown.shown ≡ closes_over t.scenario t.windows c.args.latency) c.in_ok-test.ensures c.in_ok-shown.ensures.closed
    ∙ ap (λ (w : Windows). closes_over c.args.instance.now w c.args.latency) c.in_ok-windows.ensures
