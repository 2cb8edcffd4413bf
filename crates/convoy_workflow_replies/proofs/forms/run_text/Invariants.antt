use Rattle.std.proofs.Common.{◌≡◌, length}
use Rattle.convoy_workflow_replies.specs.WorkflowForms.{run_text, run_text_from}
use Rattle.convoy_workflow_replies.proofs.forms.run_text.Given as goal

abbrev pub invariant-loop-byte : goal.invariant-loop-byte
invariant-loop-byte l = run_text_from l.begins l.rest ≡ run_text l.text

abbrev pub decreases-loop-byte : goal.decreases-loop-byte
decreases-loop-byte l = length l.rest
