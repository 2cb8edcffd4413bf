use Rattle.std.proofs.Common.{◌≡◌, length}
use Rattle.convoy_workflows.specs.Origins.{comes_from}
use Rattle.convoy_workflows.proofs.origins.does_follow.Given as goal

-- the message is followed from where the walk is in as many steps as are left
abbrev pub invariant-loop-steps : goal.invariant-loop-steps
invariant-loop-steps l = comes_from (length l.causes) l.causes l.origin l.message ≡ comes_from l.steps l.causes l.origin l.at

abbrev pub decreases-loop-steps : goal.decreases-loop-steps
decreases-loop-steps l = l.steps
