pub use Rattle.convoy_scenario.specs.Scenario
pub use Rattle.convoy_packets.specs.Assignment
pub use Rattle.convoy_packets.specs.Table
pub use Rattle.convoy_sim.specs.Record
pub mod Finds
pub mod Seeking
