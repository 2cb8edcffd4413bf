-- what a reader has to know of the crates below
pub use Rattle.convoy_draft.specs.Draft
pub use Rattle.convoy_scenario.specs.Memory
pub use Rattle.convoy_scenario.specs.Scenario
pub use Rattle.convoy_scenario.specs.WellFormed
pub use Rattle.convoy_toml.specs.Shape as ScenarioShape
pub use Rattle.convoy_toml.specs.Reading as ScenarioReading
pub use Rattle.convoy_ceiling.specs.Ceiling
-- what a reader has to believe: what kinds are, the scenario of two of them, their ceilings, and which text gives which kinds
pub mod Kinds
pub mod Pairs
pub mod Ceilings
pub mod KindLaws
pub mod Shape
pub mod Checks
pub mod Numbering
pub mod Reading
