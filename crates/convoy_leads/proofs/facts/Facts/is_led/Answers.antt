use Rattle.std.proofs.Common.{◌≡◌, Bool, IfOk, sym, subst, ◌∙◌}
use Rattle.convoy_sure.specs.Windows.{tables_by}
use Rattle.convoy_leads.proofs.LedTests.{led_if_behind, not_led}
use Rattle.convoy_leads.proofs.facts.Facts.is_led.Goals as goal

pub returns-then-not-arrives_behind : goal.returns-then-not-arrives_behind
returns-then-not-arrives_behind c =
    sym (not_led c.args.self.now.scenario.now (tables_by c.args.windows.now) c.args.n (sym c.arrives_behind.ensures ∙ c.if-not-arrives_behind.true))

pub returns : goal.returns
returns c =
    subst (λ (b : Bool). IfOk c.is_led_behind.result (λ led. led ≡ b))
    (sym (led_if_behind c.args.self.now.scenario.now (tables_by c.args.windows.now) c.args.n (sym c.arrives_behind.ensures ∙ c.if-not-arrives_behind.false)))
    c.is_led_behind.ensures
