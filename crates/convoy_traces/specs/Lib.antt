-- what a reader has to know of the crates below
pub use Rattle.convoy_lines.specs.Results
pub use Rattle.convoy_draft.specs.Durations
pub use Rattle.convoy_ranges.specs.Tables
pub use Rattle.convoy_scenario.specs.Scenario
-- what a reader has to believe: the rows of a text, what they tell, and the trace that this is
pub mod Told
pub mod Rows
pub mod Entries
pub mod Traces
