-- what a reader has to know of the crates below
pub use Rattle.convoy_causes.specs.Causes
pub use Rattle.convoy_certificate.specs.Certificate
pub use Rattle.convoy_workflow_certificate.specs.WorkflowTexts as WorkflowCertificateTexts
pub use Rattle.convoy_workflow_checker.specs.WorkflowValidity
pub use Rattle.convoy_workflow_checker.specs.WorkflowCheckLaws
pub use Rattle.convoy_workflows.specs.Workflows
pub use Rattle.convoy_workflows.specs.Reading as WorkflowTexts
pub use Rattle.convoy_times.specs.Measures
pub use Rattle.convoy_commands.specs.ReplyLines
pub use Rattle.convoy_commands.specs.Verdicts
pub use Rattle.convoy_commands.specs.Outsides
-- what a reader has to believe: what is answered of a target where messages follow others
pub mod WorkflowLatencies
-- what is known once that was sought
pub mod SoughtTimes
pub mod WorkflowProofs
pub mod LateRuns
