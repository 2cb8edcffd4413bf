use Rattle.std.proofs.Common.{◌≡◌, ◌++◌, take}
use Rattle.std.specs.List.{flat_map}
use Rattle.convoy_workflow_certificate.specs.WorkflowTexts.{follow_text}
use Rattle.convoy_workflow_certificate.proofs.writing.push_causes.Given as goal

abbrev pub invariant-loop-cause : goal.invariant-loop-cause
invariant-loop-cause l = l.text.items ≡ l.fn.text.items ++ flat_map follow_text (take l.cause-index l.causes)
