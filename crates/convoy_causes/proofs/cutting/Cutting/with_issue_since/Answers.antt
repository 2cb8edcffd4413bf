use Rattle.std.proofs.Common.{ℕ, ◌+◌, get_or, ap₂, ◌∙◌}
use Rattle.convoy_scenario.specs.Scenario.{Scenario}
use Rattle.convoy_sure.specs.Windows.{Windows, with_arrival}
use Rattle.convoy_causes.specs.CauseWindows.{least_way}
use Rattle.convoy_causes.proofs.Turns.{fold_turn}
use Rattle.convoy_causes.proofs.cutting.Cutting.with_issue_since.Goals as goal

pub loop-to-preserved : goal.loop-to-preserved
loop-to-preserved c =
    let scenario = c.args.self.now.instance.now in
    let m = c.args.message in
    let items = c.destinations-to-items.result.now in
    let i = c.loop-to.to-index in
    let g = get_or items i 0 in
    fold_turn (λ (cut : Windows) (h : ℕ). with_arrival scenario cut m h (c.min-from.result + least_way scenario m h)) c.args.windows c.loop-to.cut c.in_ok-cut.cut items i 0 c.loop-to-test.true
    (c.in_ok-cut.ensures ∙ ap₂ (λ (s : Scenario) (way : ℕ). with_arrival s c.loop-to.cut m g (c.min-from.result + way)) c.scenario-scenario.ensures.value c.least_way.ensures.value)
    c.loop-to.invariant
