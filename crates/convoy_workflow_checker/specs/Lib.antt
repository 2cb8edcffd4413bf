-- what a reader has to know of the crates below
pub use Rattle.convoy_scenario.specs.Scenario
pub use Rattle.convoy_certificate.specs.Certificate
pub use Rattle.convoy_causes.specs.Causes
pub use Rattle.convoy_causes.specs.CauseWindows
pub use Rattle.convoy_commands.specs.Refusals
pub use Rattle.convoy_workflow_certificate.specs.WorkflowTexts
-- what a reader has to believe: what a certificate of a workflow has to meet, and what is proved of it
pub mod WorkflowValidity
pub mod WorkflowCheckLaws
pub mod RefusalLines
