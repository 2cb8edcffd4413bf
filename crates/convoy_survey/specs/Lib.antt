-- what a reader has to know of the crates below
pub use Rattle.convoy_scenario.specs.Scenario
pub use Rattle.convoy_scenario.specs.Targets
pub use Rattle.convoy_sim.specs.Greatest
pub use Rattle.convoy_timeline.specs.Causes
pub use Rattle.convoy_ceiling.specs.Ceiling
pub use Rattle.convoy_ceiling.specs.Targets as CeilingTargets
pub use Rattle.convoy_ceiling.specs.Finding as Traffic
pub use Rattle.convoy_outages.specs.Outages
pub use Rattle.convoy_outages.specs.OutageCeiling
pub use Rattle.convoy_outages.specs.Spans as OutageSpans
pub use Rattle.convoy_branch.specs.Options
pub use Rattle.convoy_times.specs.Measures
pub use Rattle.convoy_tables.specs.Tables
pub use Rattle.convoy_tables.specs.Formats
pub use Rattle.convoy_commands.specs.Verdicts
pub use Rattle.convoy_commands.specs.Ceilings as TargetCeilings
pub use Rattle.convoy_commands.specs.Searches
-- what a reader has to believe: what a survey finds, and the table that it writes
pub mod Findings
pub mod AtAll
pub mod Times
pub mod Judgements
pub mod Cells
pub mod Surveys
-- the same of the ceilings of all targets
pub mod Ceilings
pub mod CeilingTables
pub mod SurveyLaws
