-- what a reader has to know of the crates below
pub use Rattle.convoy_scenario.specs.Scenario
pub use Rattle.convoy_scenario.specs.Targets
pub use Rattle.convoy_sim.specs.Greatest
pub use Rattle.convoy_ceiling.specs.Ceiling
pub use Rattle.convoy_outages.specs.OutageCeiling
pub use Rattle.convoy_outages.specs.Spans as OutageSpans
pub use Rattle.convoy_outage_runs.specs.OutageRuns
pub use Rattle.convoy_outside.specs.Sums
pub use Rattle.convoy_branch.specs.Options
pub use Rattle.convoy_times.specs.Measures
pub use Rattle.convoy_tables.specs.Tables
pub use Rattle.convoy_tables.specs.Formats
pub use Rattle.convoy_commands.specs.ReplyLines
pub use Rattle.convoy_commands.specs.Verdicts
pub use Rattle.convoy_commands.specs.Outsides
pub use Rattle.convoy_commands.specs.Searches
pub use Rattle.convoy_commands.specs.Ceilings as TargetCeilings
pub use Rattle.convoy_survey.specs.Findings
pub use Rattle.convoy_survey.specs.AtAll
pub use Rattle.convoy_survey.specs.Cells
pub use Rattle.convoy_survey.specs.Judgements
pub use Rattle.convoy_survey.specs.Surveys
-- what a reader has to believe: what is answered of a target through outages
pub mod Latencies
-- the same of all targets
pub mod RowsThrough
pub mod TablesThrough
pub mod SurveysThrough
