-- what a text says of a scenario before it is known to be one
pub use Rattle.convoy_draft.specs.Checks
pub use Rattle.convoy_draft.specs.Draft
pub use Rattle.convoy_draft.specs.Limits
pub use Rattle.convoy_draft.specs.Names
-- scenarios
pub mod Differences
pub mod ScenarioLaws
pub mod Memory
pub mod Naming
pub mod Numbering
pub mod Room
pub mod Scenario
pub mod Targets
pub mod WellFormed
pub mod Widened
pub mod WidenedLaws
