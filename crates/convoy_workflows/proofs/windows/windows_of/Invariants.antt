use Rattle.std.proofs.Common.{◌≡◌}
use Rattle.convoy_workflows.specs.Windows.{windows_of}
use Rattle.convoy_workflows.proofs.windows.windows_of.Given as goal

abbrev pub invariant-loop-message : goal.invariant-loop-message
invariant-loop-message l = l.windows.items ≡ windows_of l.draft l.causes l.message
