use Rattle.convoy_causes.specs.Causes.{IsFollowing}
use Rattle.convoy_workflow_checker.proofs.InTurn.{one_more}
use Rattle.convoy_workflow_checker.proofs.causes.first_not_followed.Goals as goal

pub loop-place-preserved : goal.loop-place-preserved
loop-place-preserved c =
    one_more (IsFollowing c.args.run.now.scenario c.args.run.now.schedule) c.args.causes.now c.loop-place.place _ c.loop-place-test.true c.loop-place.invariant (c.follows.ensures.0 c.if-not-follows.false)
