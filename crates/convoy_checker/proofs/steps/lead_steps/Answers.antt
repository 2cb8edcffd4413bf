use Rattle.std.proofs.Common.{ap, length}
use Rattle.convoy_checker.proofs.StepLimits.{lead_steps_are}
use Rattle.convoy_checker.proofs.steps.lead_steps.Goals as goal

pub returns : goal.returns
returns c =
    let same = c.scenario-scenario.ensures.value in
    lead_steps_are c.args.instance.now c.args.delay_box.now c.args.before.now c.args.latency _ _ _ _ _ _
    (rw same at c.in_ok-pairs.ensures.value) c.in_ok-windows.ensures (ap length c.as_slice-pairs.ensures.value) c.windows_asked-asked.ensures.value
    (rw same at c.test_count-tests.ensures.value) (rw same at c.test_steps.ensures.value)
