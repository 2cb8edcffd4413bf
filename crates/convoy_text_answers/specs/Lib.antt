-- what a reader has to know of the crates below
pub use Rattle.convoy_scenario.specs.Scenario
pub use Rattle.convoy_scenario.specs.Differences
pub use Rattle.convoy_sim.specs.Greatest
pub use Rattle.convoy_certificate.specs.Certificate
pub use Rattle.convoy_certificate.specs.Reading as CertificateReading
pub use Rattle.convoy_checker.specs.Validity
pub use Rattle.convoy_tables.specs.Formats
pub use Rattle.convoy_commands.specs.Checks
pub use Rattle.convoy_commands.specs.ReplyLines
pub use Rattle.convoy_commands.specs.Refusals
pub use Rattle.convoy_commands.specs.Replies
pub use Rattle.convoy_commands.specs.Withins
pub use Rattle.convoy_kinds.specs.Kinds
pub use Rattle.convoy_kinds.specs.Ceilings as KindCeilings
pub use Rattle.convoy_kinds.specs.Reading as KindReading
pub use Rattle.convoy_kinds_told.specs.KindTables
pub use Rattle.convoy_kinds_told.specs.Worst
pub use Rattle.convoy_fits_told.specs.Told
pub use Rattle.convoy_trace_ranges.specs.Answers as TraceRanges
pub use Rattle.convoy_trace_ranges.specs.LinkTables
pub use Rattle.convoy_trace_ranges.specs.Beside
-- what a reader has to believe: what is told of what was accepted, and what may be answered for each text
pub mod AcceptedLines
pub mod Abouts
pub mod KindAnswers
pub mod FitsAnswers
pub mod LinkAnswers
pub mod CheckLaws
