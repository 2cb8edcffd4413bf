use Rattle.convoy_report.proofs.Replies.{one_more_run}
use Rattle.convoy_report.proofs.running.runs_of.Goals as goal

pub loop-target-preserved : goal.loop-target-preserved
loop-target-preserved g c =
    rw c.in-Ok.ensures.items
    (one_more_run c.args.asked.now c.args.options.now c.args.text.now c.args.scenario.now c.args.targets.now c.loop-target.target-index _
    c.loop-target.runs.items c.in_ok-run.run' c.loop-target-test.true c.loop-target.invariant c.in_ok-run.ensures.0 c.in_ok-run.ensures.1)
