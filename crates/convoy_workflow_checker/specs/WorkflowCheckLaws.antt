-- What is proved of certificates of workflows. It is the one clause of the function of its name in the crate's module `workflow_check_laws`.
use Rattle.convoy_certificate.specs.Certificate.{IsCertificate}
use Rattle.convoy_causes.specs.Causes.{IsGreatestCaused}
use Rattle.convoy_workflow_certificate.specs.declared.workflow_certificate.WorkflowCertificate.{WorkflowCertificate}
use Rattle.convoy_workflow_checker.specs.WorkflowValidity.{IsValidWorkflow}

-- the time that it states is the greatest from that issue to the delivery of the target, among all runs of its scenario in which messages follow its causes
abbrev pub IsGreatestOfWorkflow : WorkflowCertificate → Type 0
IsGreatestOfWorkflow certificate =
    IsGreatestCaused certificate.run.scenario certificate.causes.items certificate.origin certificate.run.latency

-- The time of a valid certificate is so, whoever made the certificate.
abbrev pub ValidWorkflowIsGreatest : Type 0
ValidWorkflowIsGreatest =
    (certificate : WorkflowCertificate) → IsCertificate certificate.run → IsValidWorkflow certificate → IsGreatestOfWorkflow certificate
