-- what a reader has to know of the crates below
pub use Rattle.convoy_scenario.specs.Differences
pub use Rattle.convoy_scenario.specs.Scenario
pub use Rattle.convoy_times.specs.Measures
pub use Rattle.convoy_finishes.specs.Finishes
pub use Rattle.convoy_certificate.specs.Certificate
pub use Rattle.convoy_timeline.specs.Explanations
pub use Rattle.convoy_commands.specs.ReplyLines
pub use Rattle.convoy_commands.specs.Replies
pub use Rattle.convoy_text_answers.specs.AcceptedLines
pub use Rattle.convoy_workflow_replies.specs.References
pub use Rattle.convoy_workflow_replies.specs.WorkflowForms
pub use Rattle.convoy_finish_checker.specs.FinishTexts
pub use Rattle.convoy_finish_checker.specs.FinishValidity
pub use Rattle.convoy_finish_checker.specs.FinishCheckLaws
pub use Rattle.convoy_finish_checker.specs.FinishRefusals
-- what a reader has to believe: what is answered of the text of a certificate of finishes
pub mod FinishForms
pub mod FinishExplanations
pub mod FinishReferences
pub mod FinishReplies
