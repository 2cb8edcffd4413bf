-- What is answered to who asks something of the text of a certificate of a workflow.
use Rattle.std.specs.Prelude.{◌≡◌, ◌⊎◌, ℕ, List, Ok, Err}
use Rattle.convoy_certificate.specs.Certificate.{IsCertificate}
use Rattle.convoy_workflow_certificate.specs.declared.workflow_certificate.WorkflowCertificate.{WorkflowCertificate}
use Rattle.convoy_workflow_certificate.specs.WorkflowTexts.{workflow_certificate_text}
use Rattle.convoy_workflow_checker.specs.declared.workflow_refusal.WorkflowRefusal.{WorkflowRefusal}
use Rattle.convoy_workflow_checker.specs.RefusalLines.{row_of_refusal}
use Rattle.convoy_workflow_checker.specs.WorkflowCheckLaws.{IsGreatestOfWorkflow}
use Rattle.convoy_workflow_checker.specs.WorkflowValidity.{IsValidWorkflow}
use Rattle.convoy_commands.specs.declared.asking.Asking.{Asking}
use Rattle.convoy_commands.specs.declared.asking.Asking.TheVariants.{Check, Explain, Draw}
use Rattle.convoy_commands.specs.declared.done.Done.{Done}
use Rattle.convoy_commands.specs.declared.done.Done.TheVariants as ends
use Rattle.convoy_commands.specs.declared.fault.Fault.TheVariants.{Memory}
use Rattle.convoy_commands.specs.Draws.{IsImageFrom}
use Rattle.convoy_commands.specs.ReplyLines.{accepted_line}
use Rattle.convoy_commands.specs.Refusals.{refused_line}
use Rattle.convoy_commands.specs.Replies.{Reply, Rule}
use Rattle.convoy_workflow_replies.specs.WorkflowExplanations.{workflow_explained}

-- The text is that of this certificate, which is valid, and the time that it states is the greatest from the issue of its origin to the delivery of the target, among all runs of its scenario in which messages follow its causes.
pub record IsTextOfValid (text : List ℕ) (certificate : WorkflowCertificate) : Type 0 where
  pub lawful : IsCertificate certificate.run
  pub stands : text ≡ workflow_certificate_text certificate
  pub valid : IsValidWorkflow certificate
  pub greatest : IsGreatestOfWorkflow certificate

-- what is written of it: the yes, why its time is what it is, or an image of its run, which tells that time from the issue of its origin
abbrev pub IsWorkflowAsked : Asking → WorkflowCertificate → List ℕ → Type 0
IsWorkflowAsked Check certificate out = out ≡ accepted_line certificate.run.latency
IsWorkflowAsked (Explain asked) certificate out = out ≡ workflow_explained asked certificate
IsWorkflowAsked (Draw asked) certificate out = IsImageFrom certificate.origin asked certificate.run out

-- THE HEADLINE. The text is that of a valid certificate of a workflow, and what is written is what is asked of it.
pub record IsWorkflowAnswered (asking : Asking) (text : List ℕ) (end : Done) (out : List ℕ) : Type 0 where
  pub certificate : WorkflowCertificate
  pub accepted : IsTextOfValid text certificate
  pub written : IsWorkflowAsked asking certificate out
  pub ends : end ≡ ends.Fine

-- The text is refused, and this is the line that tells why.
pub record IsWorkflowDenied (end : Done) (out : List ℕ) : Type 0 where
  pub refusal : WorkflowRefusal
  pub written : out ≡ refused_line (row_of_refusal refusal)
  pub ends : end ≡ ends.WorkflowRefused

-- what may be answered: the one or the other
abbrev pub AskWorkflowSays : Asking → Rule
AskWorkflowSays asking text (Ok (end, out)) = IsWorkflowAnswered asking text end out ⊎ IsWorkflowDenied end out
AskWorkflowSays asking text (Err fault) = ⊥

-- a reply that refuses the text, or that memory ran out
abbrev pub IsDenial : Reply → Type 0
IsDenial (Ok (end, out)) = IsWorkflowDenied end out
IsDenial (Err fault) = fault ≡ Memory
