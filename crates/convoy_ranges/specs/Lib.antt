-- what a reader has to know of the crates below
pub use Rattle.convoy_lines.specs.Results
pub use Rattle.convoy_draft.specs.Durations
pub use Rattle.convoy_draft.specs.Names
pub use Rattle.convoy_times.specs.Measures
-- what a reader has to believe: the rules, what tables tell, the ranges that this gives, and the text that is written
pub mod Rules
pub mod Tables
pub mod Ranges
pub mod Texts
pub mod Answers
-- what is proved of that
pub mod RangeLaws
