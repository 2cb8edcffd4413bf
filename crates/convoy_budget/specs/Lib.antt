-- what a reader has to know of the crates below
pub use Rattle.convoy_draft.specs.Draft
pub use Rattle.convoy_scenario.specs.Naming
pub use Rattle.convoy_scenario.specs.Numbering
pub use Rattle.convoy_scenario.specs.Scenario
pub use Rattle.convoy_scenario.specs.Targets
pub use Rattle.convoy_packets.specs.Packets
pub use Rattle.convoy_sim.specs.Greatest
pub use Rattle.convoy_ceiling.specs.Ceiling
pub use Rattle.convoy_branch.specs.Options
pub use Rattle.convoy_tables.specs.Tables
pub use Rattle.convoy_commands.specs.Verdicts
pub use Rattle.convoy_survey.specs.Findings
pub use Rattle.convoy_survey.specs.Times
-- what a reader has to believe: the ways of a scenario, what another range of one makes of it, how wide a range may get, the rows, and the table that is written
pub mod Ways
pub mod Ranges
pub mod Rooms
pub mod Judging
pub mod Budgets
pub mod Cells
pub mod Answers
pub mod BudgetLaws
-- what the search keeps
pub mod Brackets
