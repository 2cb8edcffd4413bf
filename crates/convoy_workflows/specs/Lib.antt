-- what a reader has to know of the crates below
pub use Rattle.convoy_draft.specs.Draft
pub use Rattle.convoy_draft.specs.Keys
pub use Rattle.convoy_lines.specs.Results
pub use Rattle.convoy_scenario.specs.Memory
pub use Rattle.convoy_scenario.specs.Scenario
pub use Rattle.convoy_scenario.specs.WellFormed
pub use Rattle.convoy_toml.specs.Shape as ScenarioShape
pub use Rattle.convoy_toml.specs.Times as ScenarioTimes
pub use Rattle.convoy_toml.specs.Reading as ScenarioReading
pub use Rattle.convoy_workflow_words.specs.Words
pub use Rattle.convoy_causes.specs.Causes
-- what a reader has to believe: what a workflow is, what stands in a table of one, which causes that gives, when its messages may be issued, from which issue its time counts, and which text gives which workflow
pub mod Workflows
pub mod Shape
pub mod Rules
pub mod Windows
pub mod Origins
pub mod Reading
