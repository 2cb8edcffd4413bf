-- what a reader has to know of the crates below
pub use Rattle.convoy_draft.specs.Checks as DraftChecks
pub use Rattle.convoy_draft.specs.Draft
pub use Rattle.convoy_scenario.specs.Memory
pub use Rattle.convoy_scenario.specs.Numbering as ScenarioNumbering
pub use Rattle.convoy_scenario.specs.Scenario
pub use Rattle.convoy_toml.specs.Shape as ScenarioShape
pub use Rattle.convoy_toml.specs.Links
pub use Rattle.convoy_toml.specs.Times
pub use Rattle.convoy_toml.specs.Deadlines
pub use Rattle.convoy_toml.specs.Reading as ScenarioReading
-- what a reader has to believe: what stands in a plan's table, the ranges between sites, the numbers, the rules, the scenario of a placement, which text gives which plan, and what is proved of plans
pub mod Shape
pub mod Ranges
pub mod Plans
pub mod Numbering
pub mod Checks
pub mod Placements
pub mod Told
pub mod Reading
pub mod Kept
pub mod PlanLaws
