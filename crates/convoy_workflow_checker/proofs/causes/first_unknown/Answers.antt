use Rattle.convoy_causes.specs.Causes.{IsCause}
use Rattle.convoy_workflow_checker.proofs.InTurn.{one_more}
use Rattle.convoy_workflow_checker.proofs.causes.first_unknown.Goals as goal

pub loop-place-preserved : goal.loop-place-preserved
loop-place-preserved c =
    one_more (IsCause c.args.scenario.now) c.args.causes.now c.loop-place.place _ c.loop-place-test.true c.loop-place.invariant (c.is_cause.ensures.0 c.if-not-is_cause.false)
