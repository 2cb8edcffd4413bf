-- what a reader has to know of the crates below
pub use Rattle.convoy_lines.specs.Labels
pub use Rattle.convoy_lines.specs.Chains
pub use Rattle.convoy_lines.specs.Places
pub use Rattle.convoy_lines.specs.Results
pub use Rattle.convoy_lines.specs.Texts
pub use Rattle.convoy_lines.specs.Words
pub use Rattle.convoy_draft.specs.Checks
pub use Rattle.convoy_draft.specs.Draft
pub use Rattle.convoy_scenario.specs.Memory
pub use Rattle.convoy_scenario.specs.Naming
pub use Rattle.convoy_scenario.specs.Numbering
pub use Rattle.convoy_scenario.specs.Scenario
pub use Rattle.convoy_scenario.specs.WellFormed
-- what a reader has to believe: the lines of a scenario, and what is proved of them
pub mod ScenarioLines
pub mod ScenarioLineLaws
-- which lines are read as what, and which fault they have
pub mod LineForms
pub mod LineReading
-- what a reader keeps of long lines
pub mod Keeping
