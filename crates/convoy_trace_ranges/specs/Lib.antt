-- what a reader has to know of the crates below
pub use Rattle.convoy_lines.specs.Results
pub use Rattle.convoy_draft.specs.Durations
pub use Rattle.convoy_draft.specs.Names
pub use Rattle.convoy_scenario.specs.Scenario
pub use Rattle.convoy_times.specs.Measures
pub use Rattle.convoy_tables.specs.Tables
pub use Rattle.convoy_tables.specs.Formats
pub use Rattle.convoy_ranges.specs.Rules
pub use Rattle.convoy_ranges.specs.Tables as RoundTrips
pub use Rattle.convoy_traces.specs.Rows
pub use Rattle.convoy_traces.specs.Entries
pub use Rattle.convoy_traces.specs.Traces
-- what a reader has to believe: what rows tell of packets, the packets and the links of a trace, and what is written
pub mod Events
pub mod Marks
pub mod Reading
pub mod Packets
pub mod Links
pub mod Shares
pub mod Ranges
pub mod Texts
pub mod Answers
pub mod Cells
pub mod LinkTables
pub mod Beside
-- for private clauses
pub mod Index
