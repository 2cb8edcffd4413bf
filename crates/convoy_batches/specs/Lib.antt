-- what a reader has to know of the crates below
pub use Rattle.convoy_streams.specs.Devices
pub use Rattle.convoy_streams.specs.Reads
pub use Rattle.convoy_streams.specs.Writes
pub use Rattle.convoy_streams.specs.Jobs
pub use Rattle.convoy_toml.specs.Reading
pub use Rattle.convoy_toml.specs.Deadlines
pub use Rattle.convoy_branch.specs.Options
pub use Rattle.convoy_tables.specs.Formats
pub use Rattle.convoy_tables.specs.Tables
pub use Rattle.convoy_outside.specs.Percents
pub use Rattle.convoy_commands.specs.Ends
pub use Rattle.convoy_commands.specs.Faults
pub use Rattle.convoy_commands.specs.Replies
pub use Rattle.convoy_commands.specs.Searches
pub use Rattle.convoy_commands.specs.Verdicts
pub use Rattle.convoy_commands.specs.CommandLaws
pub use Rattle.convoy_survey.specs.Cells
pub use Rattle.convoy_survey.specs.Findings
pub use Rattle.convoy_survey.specs.Judgements
-- what a reader has to believe: what a batch does at its devices, and what its table says
pub mod Batches
pub mod KeptJobs
pub mod JobRows
pub mod JobTables
pub mod BatchTables
pub mod BatchLaws
pub mod BatchSteps
