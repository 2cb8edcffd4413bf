use Rattle.std.proofs.Common.{length, ap, ◌∙◌, arith}
use Rattle.convoy_intervals.proofs.Rivals.{passing_end, passing_step}
use Rattle.convoy_finishes.proofs.Told.{latency_told}
use Rattle.convoy_finishes.specs.FinishRuns.{Answered}
use Rattle.convoy_sim.specs.Times.{issue}
use Rattle.convoy_finishes.proofs.finish_run.FinishRun.latency.Goals as goal
use Rattle.convoy_finishes.proofs.finish_run.FinishRun.latency.Goals.{then-is_ahead, else-is_ahead}

pub loop-message-preserved : goal.loop-message-preserved
loop-message-preserved c =
    passing_step _ _ _ _ c.loop-message.last _ c.loop-message.message _ c.loop-message-test.true
    (elim c.if-is_ahead.branch [ then-is_ahead w ↦ grind arith | else-is_ahead w ↦ grind arith ]) c.loop-message.invariant

pub returns : goal.returns
returns c =
    let plan = c.args.self.now.scenario in
    let schedule = c.args.self.now.schedule in
    let ways = c.args.self.now.ways in
    let total = passing_end _ _ _ _ c.loop-message.last c.loop-message.message _ c.loop-message-test.false c.loop-message.invariant in
    latency_told plan schedule ways _ _ _ _ total
    (c.message_count-message-end.ensures.value ∙ ap (λ (run : Answered). length run.scenario.multicasts) c.self.view_is)
    (c.issue.ensures ∙ ap (issue plan schedule) (c.target_message-target.ensures.value ∙ ap (λ (run : Answered). run.scenario.target_message) c.self.view_is)) c.saturating_sub.ensures
