pub use Rattle.convoy_sim.specs.Record
pub use Rattle.convoy_scenario.specs.Scenario
pub use Rattle.convoy_scenario.specs.WellFormed
pub use Rattle.convoy_packets.specs.Assignment
pub use Rattle.convoy_sim.specs.Delivery
pub use Rattle.convoy_sim.specs.Greatest
-- The ceiling: a number that no latency exceeds, whatever traffic of a scenario's kinds of messages there is.
pub mod Ceiling
pub mod Targets
pub mod Finding
pub mod Tests
