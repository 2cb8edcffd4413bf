-- What is valid is the greatest.
use Rattle.std.proofs.Common.{IfOk, Result, Ok, Err}
use Rattle.convoy_certificate.specs.Certificate.{IsCertificate}
use Rattle.convoy_causes.specs.CauseLaws.{ClosedByCauses, MetUpperIsGreatest}
use Rattle.convoy_workflow_certificate.specs.declared.workflow_certificate.WorkflowCertificate.{WorkflowCertificate}
use Rattle.convoy_workflow_checker.specs.declared.workflow_refused.WorkflowRefused.{WorkflowRefused}
use Rattle.convoy_workflow_checker.specs.WorkflowCheckLaws.{IsGreatestOfWorkflow, ValidWorkflowIsGreatest}
use Rattle.convoy_workflow_checker.specs.WorkflowValidity.{IsValidWorkflow}

pub valid_is_greatest : ClosedByCauses → MetUpperIsGreatest → ValidWorkflowIsGreatest
valid_is_greatest closed met certificate lawful valid =
    met certificate.run.scenario certificate.causes.items certificate.origin certificate.run.latency
    (certificate.run.schedule, valid.caused, valid.time)
    (closed certificate.run.scenario certificate.causes.items certificate.origin certificate.within.items certificate.run.latency lawful.scenario valid.causes valid.known
    valid.closed)

pub greatest_if_valid : ValidWorkflowIsGreatest → (certificate : WorkflowCertificate) (result : Result (Unit {0}) WorkflowRefused) → IsCertificate certificate.run
    → IfOk result (λ x. IsValidWorkflow certificate) → IfOk result (λ x. IsGreatestOfWorkflow certificate)
greatest_if_valid law certificate (Ok x) lawful valid = law certificate lawful valid
greatest_if_valid law certificate (Err refused) lawful valid = tt
