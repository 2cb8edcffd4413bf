-- what a reader has to know of the crates below
pub use Rattle.convoy_scenario.specs.Scenario
pub use Rattle.convoy_toml.specs.Cases as TextCases
pub use Rattle.convoy_branch.specs.Options
pub use Rattle.convoy_tables.specs.Tables
pub use Rattle.convoy_tables.specs.Formats
pub use Rattle.convoy_survey.specs.Surveys
-- what a reader has to believe: what a survey of all cases of a text is
pub mod CaseSurveys
-- words of the program's own parts: no promise rests on them
pub mod Surveying
