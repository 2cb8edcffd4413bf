-- The number and the text of each refusal of a certificate of a workflow.
use Rattle.std.specs.Prelude.{ℕ, List, ◌++◌, codes, decimal}
use Rattle.convoy_commands.specs.Faults.{memory_row}
use Rattle.convoy_commands.specs.Refusals as refusals
use Rattle.convoy_workflow_certificate.specs.declared.workflow_text_fault.WorkflowLine.{WorkflowLine}
use Rattle.convoy_workflow_certificate.specs.declared.workflow_text_fault.WorkflowLine.TheVariants as lines
use Rattle.convoy_workflow_certificate.specs.declared.workflow_text_fault.WorkflowTextFault.{WorkflowTextFault}
use Rattle.convoy_workflow_certificate.specs.declared.workflow_text_fault.WorkflowTextFault.TheVariants as texts
use Rattle.convoy_workflow_checker.specs.declared.workflow_refusal.WorkflowRefusal.{WorkflowRefusal}
use Rattle.convoy_workflow_checker.specs.declared.workflow_refusal.WorkflowRefusal.TheVariants.{Text, Check}
use Rattle.convoy_workflow_checker.specs.declared.workflow_refused.WorkflowRefused.{WorkflowRefused}
use Rattle.convoy_workflow_checker.specs.declared.workflow_refused.WorkflowRefused.TheVariants as checks

-- the word of what a line has to be
abbrev pub workflow_line_word : WorkflowLine → List ℕ
workflow_line_word lines.Workflow = codes "convoy workflow"
workflow_line_word lines.Follow = codes "follow"
workflow_line_word lines.Within = codes "within"
workflow_line_word lines.From = codes "from"

-- of a fault of the text: one of what stands below the lines of the workflow is told as of a certificate
abbrev pub row_of_text : WorkflowTextFault → ℕ × List ℕ
row_of_text (texts.Line number expected) =
    (20, codes "line " ++ (decimal number ++ (codes " expected " ++ workflow_line_word expected)))
row_of_text (texts.Certificate fault) = refusals.row_of_text fault
row_of_text texts.Spelling = (80, codes "spelling")
row_of_text texts.Memory = memory_row

-- of a fault of the certificate
abbrev pub row_of_check : WorkflowRefused → ℕ × List ℕ
row_of_check checks.Tree = (25, codes "tree count")
row_of_check (checks.Cause place) = (92, codes "cause " ++ decimal place)
row_of_check checks.Origin = (93, codes "origin")
row_of_check (checks.Followed place) = (94, codes "not followed " ++ decimal place)
row_of_check (checks.Time simulated) = (23, codes "simulated " ++ decimal simulated)
row_of_check checks.Open = (95, codes "not closed")
row_of_check checks.Memory = memory_row

-- of a refusal
abbrev pub row_of_refusal : WorkflowRefusal → ℕ × List ℕ
row_of_refusal (Text fault) = row_of_text fault
row_of_refusal (Check refused) = row_of_check refused
