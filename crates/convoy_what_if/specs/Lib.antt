-- what a reader has to know of the crates below
pub use Rattle.convoy_scenario.specs.Scenario
pub use Rattle.convoy_scenario.specs.Naming
pub use Rattle.convoy_scenario.specs.Numbering
pub use Rattle.convoy_packets.specs.Packets
pub use Rattle.convoy_timeline.specs.Timeline
pub use Rattle.convoy_sim.specs.Greatest
pub use Rattle.convoy_branch.specs.Options
pub use Rattle.convoy_tables.specs.Tables
pub use Rattle.convoy_tables.specs.Formats
pub use Rattle.convoy_commands.specs.Searches
pub use Rattle.convoy_survey.specs.Findings
pub use Rattle.convoy_survey.specs.Times
pub use Rattle.convoy_survey.specs.Judgements
-- what a reader has to believe: what a change makes of a scenario, and which changes there are; what is tried of each, in which order the rows stand, and the table that is written
pub mod Changes
pub mod Cells
pub mod Tries
pub mod Orders
pub mod WhatIf
pub mod ChangeLaws
