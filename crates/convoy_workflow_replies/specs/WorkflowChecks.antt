-- What `check` answers for the text of a certificate of a workflow, and for that of a scenario where something else is wanted.
use Rattle.std.specs.Prelude.{◌≡◌, ◌⊎◌, ℕ, Bool, true, false, List, ◌++◌, Option, Ok, Err}
use Rattle.convoy_draft.specs.declared.duration.TimeUnit.{TimeUnit}
use Rattle.convoy_scenario.specs.declared.part.Part.{Part}
use Rattle.convoy_workflow_certificate.specs.declared.workflow_certificate.WorkflowCertificate.{WorkflowCertificate}
use Rattle.convoy_commands.specs.declared.asking.Asking.TheVariants.{Check}
use Rattle.convoy_commands.specs.declared.done.Done.{Done}
use Rattle.convoy_commands.specs.declared.done.Done.TheVariants.{Fine, Differs}
use Rattle.convoy_commands.specs.Asks.{AskSays}
use Rattle.convoy_commands.specs.Checks.{IsAccepted}
use Rattle.convoy_commands.specs.ReplyLines.{accepted_line}
use Rattle.convoy_commands.specs.Replies.{Rule}
use Rattle.convoy_text_answers.specs.AcceptedLines.{differs_line}
use Rattle.convoy_workflow_replies.specs.declared.reference.Reference.{Reference}
use Rattle.convoy_workflow_replies.specs.References.{DiffersFromWanted, IsOfWanted}
use Rattle.convoy_workflow_replies.specs.WorkflowAsks.{IsTextOfValid, IsWorkflowDenied}
use Rattle.convoy_workflow_replies.specs.WorkflowExplanations.{workflow_explained}

-- the yes, and below it why the time is what it is, where that is to be told
abbrev pub yes_text : Bool → Option TimeUnit → WorkflowCertificate → List ℕ
yes_text false unit certificate = accepted_line certificate.run.latency
yes_text true unit certificate = accepted_line certificate.run.latency ++ workflow_explained unit certificate

-- how it ends for a valid certificate, and what is written: the yes where it is of what is wanted, if something is, and else the first part in which it differs from that
abbrev pub IsReplyToValid : Option Reference → Bool → Option TimeUnit → WorkflowCertificate → Done → List ℕ → Type 0
IsReplyToValid wanted tells unit certificate Fine out = IsOfWanted wanted certificate × (out ≡ yes_text tells unit certificate)
IsReplyToValid wanted tells unit certificate (Differs part) out = DiffersFromWanted wanted certificate part × (out ≡ differs_line part)
IsReplyToValid wanted tells unit certificate other out = ⊥

-- THE HEADLINE. The text is that of a valid certificate of a workflow, and gets this answer.
pub record IsWorkflowChecked (wanted : Option Reference) (tells : Bool) (unit : Option TimeUnit) (text : List ℕ) (end : Done) (out : List ℕ) : Type 0 where
  pub certificate : WorkflowCertificate
  pub accepted : IsTextOfValid text certificate
  pub answer : IsReplyToValid wanted tells unit certificate end out

-- what may be answered: that, or a refusal
abbrev pub CheckWorkflowSays : Option Reference → Bool → Option TimeUnit → Rule
CheckWorkflowSays wanted tells unit text (Ok (end, out)) = IsWorkflowChecked wanted tells unit text end out ⊎ IsWorkflowDenied end out
CheckWorkflowSays wanted tells unit text (Err fault) = ⊥

-- `check` accepts the text, which is that of a certificate of a scenario, and so of nothing else. What is written is that refusal, and the part is that one.
pub record IsOfOther (wanted part : Part) (text out : List ℕ) : Type 0 where
  pub line : List ℕ
  pub accepted : IsAccepted text line
  pub is_named : part ≡ wanted
  pub written : out ≡ differs_line part

-- what may be answered for the text of a certificate of a scenario, where something else is wanted, from which it differs in this part: what is not accepted is answered as `check` does
abbrev pub CheckOfOtherSays : Part → Rule
CheckOfOtherSays wanted text (Ok (Fine, out)) = ⊥
CheckOfOtherSays wanted text (Ok (Differs part, out)) = IsOfOther wanted part text out
CheckOfOtherSays wanted text other = AskSays Check text other
