use Rattle.std.proofs.Common.{◌≡◌, Bool, IfOk, subst}
use Rattle.convoy_scenario.specs.Scenario.{Scenario}
use Rattle.convoy_sure.specs.Windows.{Windows, tables_by}
use Rattle.convoy_sure.specs.SureLeads.{Sure}
use Rattle.convoy_starts.specs.Tests.{is_less_elsewhere}
use Rattle.convoy_leads.proofs.facts.Facts.is_less_elsewhere.Goals as goal

pub returns : goal.returns
returns c =
    let told = λ (scenario : Scenario) (windows : Windows) (sure : Sure) (barring : Bool).
    IfOk c.is_led.result (λ less. less ≡ is_less_elsewhere scenario (tables_by windows) sure barring) in
    let of = c.setting-setting.ensures in
    let made = c.setting-setting.result in
    subst (told c.args.self.now.scenario.now c.args.windows.now c.args.sure.now) of.barring
    (subst (λ (s : Sure). told c.args.self.now.scenario.now c.args.windows.now s made.barring) of.sure
    (subst (λ (w : Windows). told c.args.self.now.scenario.now w made.sure.now made.barring) of.windows
    (subst (λ (s : Scenario). told s made.windows.now made.sure.now made.barring) of.scenario c.is_led.ensures)))
