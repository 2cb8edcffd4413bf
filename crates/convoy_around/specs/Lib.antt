-- what a reader has to know of the crates below
pub use Rattle.convoy_scenario.specs.Memory
pub use Rattle.convoy_scenario.specs.Scenario
pub use Rattle.convoy_scenario.specs.WellFormed
-- what a reader has to believe: what a scenario is around a target, and what is proved of that
pub mod Around
pub mod AroundLaws
