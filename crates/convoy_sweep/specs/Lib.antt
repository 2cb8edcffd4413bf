-- what a reader has to know of the crates below
pub use Rattle.convoy_draft.specs.Durations
pub use Rattle.convoy_toml.specs.Shape
pub use Rattle.convoy_toml.specs.Times
pub use Rattle.convoy_toml.specs.Reading
pub use Rattle.convoy_branch.specs.Options
pub use Rattle.convoy_sim.specs.Greatest
pub use Rattle.convoy_laws.specs.IssueWindows
pub use Rattle.convoy_tables.specs.Tables
pub use Rattle.convoy_commands.specs.Verdicts
pub use Rattle.convoy_survey.specs.Cells as FoundCells
pub use Rattle.convoy_survey.specs.Findings
pub use Rattle.convoy_survey.specs.Judgements
pub use Rattle.convoy_curve.specs.Curves as DrawnCurves
-- what a reader has to believe: what is written where a key has another value, which values it has, which points a sweep has, the rows, and the table or the curve that is written
pub mod Keys
pub mod Values
pub mod Settings
pub mod Points
pub mod Rows
pub mod Cells
pub mod Answers
pub mod Curves
pub mod Told
pub mod SweepLaws
