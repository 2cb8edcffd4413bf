-- what a reader has to know of the crates below
pub use Rattle.convoy_scenario.specs.Scenario
pub use Rattle.convoy_scenario.specs.WellFormed
pub use Rattle.convoy_packets.specs.Packets
pub use Rattle.convoy_packets.specs.Assignment
pub use Rattle.convoy_sim.specs.Greatest
pub use Rattle.convoy_laws.specs.FinerTicks
pub use Rattle.convoy_outages.specs.Outages
pub use Rattle.convoy_outages.specs.OutageCeiling
-- what a reader has to believe: which runs there are through outages, and what no latency exceeds in them
pub mod OutageRuns
-- with which scenario that is found, and what is proved of it
pub mod Compressed
pub mod OutageRunLaws
