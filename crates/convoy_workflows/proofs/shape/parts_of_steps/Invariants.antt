use Rattle.std.proofs.Common.{◌≡◌}
use Rattle.convoy_workflows.specs.Shape.{causes_of_steps, messages_of_steps}
use Rattle.convoy_workflows.proofs.shape.parts_of_steps.Given as goal

-- the parts of the steps so far
abbrev pub invariant-loop-step : goal.invariant-loop-step
invariant-loop-step l = (l.multicasts.items ≡ messages_of_steps l.yielded) × (l.causes.items ≡ causes_of_steps l.yielded)
