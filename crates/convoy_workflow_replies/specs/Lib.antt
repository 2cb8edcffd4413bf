-- what a reader has to know of the crates below
pub use Rattle.convoy_scenario.specs.Differences
pub use Rattle.convoy_scenario.specs.Scenario
pub use Rattle.convoy_times.specs.Measures
pub use Rattle.convoy_causes.specs.Causes
pub use Rattle.convoy_certificate.specs.Certificate
pub use Rattle.convoy_certificate.specs.TextForms
pub use Rattle.convoy_timeline.specs.Explanations
pub use Rattle.convoy_draw.specs.Drawings
pub use Rattle.convoy_commands.specs.Draws
pub use Rattle.convoy_commands.specs.ReplyLines
pub use Rattle.convoy_commands.specs.Replies
pub use Rattle.convoy_commands.specs.Asks
pub use Rattle.convoy_commands.specs.Checks
pub use Rattle.convoy_commands.specs.Withins
pub use Rattle.convoy_text_answers.specs.AcceptedLines
pub use Rattle.convoy_workflows.specs.Workflows
pub use Rattle.convoy_workflow_certificate.specs.WorkflowTexts
pub use Rattle.convoy_workflow_checker.specs.WorkflowValidity
pub use Rattle.convoy_workflow_checker.specs.WorkflowCheckLaws
pub use Rattle.convoy_workflow_checker.specs.RefusalLines
-- what a reader has to believe: what is answered of the text of a certificate of a workflow
pub mod WorkflowForms
pub mod WorkflowExplanations
pub mod WorkflowAsks
pub mod References
pub mod WorkflowChecks
