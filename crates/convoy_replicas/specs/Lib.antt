-- what a reader has to know of the crates below
pub use Rattle.convoy_scenario.specs.Scenario
-- how many ticks replicas are from the leaders of their groups
pub mod Replicas
