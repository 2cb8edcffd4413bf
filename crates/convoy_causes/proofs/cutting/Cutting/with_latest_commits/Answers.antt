use Rattle.std.proofs.Common.{ℕ, get_or, ap₂, ◌∙◌}
use Rattle.convoy_scenario.specs.Scenario.{Scenario}
use Rattle.convoy_sure.specs.Windows.{Windows, with_commit_by}
use Rattle.convoy_causes.specs.CauseWindows.{latest_commit}
use Rattle.convoy_causes.proofs.Turns.{fold_turn}
use Rattle.convoy_causes.proofs.cutting.Cutting.with_latest_commits.Goals as goal

pub loop-to-preserved : goal.loop-to-preserved
loop-to-preserved c =
    let scenario = c.args.self.now.instance.now in
    let m = c.args.message in
    let items = c.destinations-to-items.result.now in
    let i = c.loop-to.to-index in
    let g = get_or items i 0 in
    fold_turn (λ (cut : Windows) (h : ℕ). with_commit_by scenario cut m h (latest_commit scenario cut m h)) c.args.windows c.loop-to.cut c.in_ok-cut.cut items i 0 c.loop-to-test.true
    (c.in_ok-cut.ensures ∙ ap₂ (λ (s : Scenario) (tick : ℕ). with_commit_by s c.loop-to.cut m g tick) c.scenario-scenario.ensures.value c.latest_commit-last.ensures.value)
    c.loop-to.invariant
