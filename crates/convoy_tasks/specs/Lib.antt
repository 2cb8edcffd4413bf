-- what a reader has to know of the crates below
pub use Rattle.convoy_scenario.specs.Scenario
pub use Rattle.convoy_streams.specs.Devices
pub use Rattle.convoy_streams.specs.Reads
pub use Rattle.convoy_streams.specs.Writes
pub use Rattle.convoy_toml.specs.Reading
pub use Rattle.convoy_task_list.specs.Outages
pub use Rattle.convoy_branch.specs.Options
pub use Rattle.convoy_commands.specs.Ends
pub use Rattle.convoy_commands.specs.Faults
pub use Rattle.convoy_commands.specs.Replies
pub use Rattle.convoy_commands.specs.Withins
pub use Rattle.convoy_commands.specs.Ceilings as TargetCeilings
pub use Rattle.convoy_commands.specs.WithCeilings
pub use Rattle.convoy_commands.specs.Searches
pub use Rattle.convoy_commands.specs.CommandLaws
pub use Rattle.convoy_case_answers.specs.CaseAnswers
pub use Rattle.convoy_case_survey.specs.CaseSurveys
pub use Rattle.convoy_finish_answers.specs.AcceptedTexts
pub use Rattle.convoy_finish_answers.specs.FinishProofs
pub use Rattle.convoy_finish_replies.specs.FinishForms
pub use Rattle.convoy_finish_replies.specs.FinishReferences
pub use Rattle.convoy_finish_replies.specs.FinishReplies
pub use Rattle.convoy_survey.specs.Surveys
pub use Rattle.convoy_survey.specs.CeilingTables
pub use Rattle.convoy_what_if.specs.WhatIf
pub use Rattle.convoy_report.specs.Reports
pub use Rattle.convoy_budget.specs.Answers as BudgetAnswers
pub use Rattle.convoy_best_order.specs.Answers as OrderAnswers
pub use Rattle.convoy_best_plan.specs.Answers as PlanAnswers
pub use Rattle.convoy_plan_ceilings.specs.Answers as PlanCeilingAnswers
pub use Rattle.convoy_plan_proof.specs.PlanProofs
pub use Rattle.convoy_batches.specs.BatchTables
pub use Rattle.convoy_text_answers.specs.Abouts
pub use Rattle.convoy_text_answers.specs.KindAnswers
pub use Rattle.convoy_text_answers.specs.FitsAnswers
pub use Rattle.convoy_text_answers.specs.LinkAnswers
pub use Rattle.convoy_workflow_answers.specs.WorkflowLatencies
pub use Rattle.convoy_workflow_answers.specs.WorkflowProofs
pub use Rattle.convoy_workflow_answers.specs.LateRuns
pub use Rattle.convoy_workflow_replies.specs.WorkflowForms
pub use Rattle.convoy_workflow_replies.specs.WorkflowAsks
pub use Rattle.convoy_workflow_replies.specs.References
pub use Rattle.convoy_workflow_replies.specs.WorkflowChecks
pub use Rattle.convoy_workflows.specs.Reading as WorkflowReading
-- what a reader has to believe: what may be answered for each task, what its run does at its devices, and what reading gives that is wanted
pub mod ScenarioTexts
pub mod Tasks
pub mod Runs
pub mod WantedReads
pub mod TaskLaws
