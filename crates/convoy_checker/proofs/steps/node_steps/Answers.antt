use Rattle.convoy_checker.proofs.StepLimits.{point_steps_are}
use Rattle.convoy_checker.proofs.steps.node_steps.Goals as goal

pub returns-in_ok-ties-in-Point : goal.returns-in_ok-ties-in-Point
returns-in_ok-ties-in-Point c =
    rw c.in-Point.is (point_steps_are c.args.origin.now c.args.region.now _ _ _ c.before-in-Point.ensures (rw (c.table.ensures.value, c.instance-instance.ensures.value) at c.len.ensures.value) (rw c.instance-instance.ensures.value at (c.in_ok-ties-in-Point.ensures.value c.args.region.now.ranges)))

pub returns-in-Lead : goal.returns-in-Lead
returns-in-Lead c = rw c.in-Lead.is (rw (c.delay_box.ensures, c.before-in-Lead.ensures) at c.moved_lead_steps.ensures)
