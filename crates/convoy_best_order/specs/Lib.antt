-- what a reader has to know of the crates below
pub use Rattle.convoy_draft.specs.Draft
pub use Rattle.convoy_scenario.specs.Naming
pub use Rattle.convoy_scenario.specs.Numbering
pub use Rattle.convoy_scenario.specs.Scenario
pub use Rattle.convoy_scenario.specs.Targets as OtherTargets
pub use Rattle.convoy_sim.specs.Greatest
pub use Rattle.convoy_orders.specs.Relisted
pub use Rattle.convoy_branch.specs.Options
pub use Rattle.convoy_tables.specs.Tables
pub use Rattle.convoy_commands.specs.Verdicts
pub use Rattle.convoy_survey.specs.Findings
pub use Rattle.convoy_survey.specs.Surveys
pub use Rattle.convoy_survey.specs.Times
-- what a reader has to believe: a scenario with its groups in another order, how late a target is there, which order is told with which reasons, and the text that is written
pub mod Orders
pub mod Excesses
pub mod Targets
pub mod Spreads
pub mod Best
pub mod Cells
pub mod Answers
pub mod OrderLaws
-- which group is listed next, and what is answered for each group and each target
pub mod Choices
pub mod Each
