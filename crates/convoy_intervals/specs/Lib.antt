pub use Rattle.convoy_scenario.specs.Memory
pub use Rattle.convoy_scenario.specs.Scenario
pub use Rattle.convoy_scenario.specs.WellFormed
pub use Rattle.convoy_packets.specs.Packets
pub use Rattle.convoy_packets.specs.Assignment
pub use Rattle.convoy_packets.specs.Table
pub use Rattle.convoy_sim.specs.Times
pub use Rattle.convoy_sim.specs.Moments
pub use Rattle.convoy_sim.specs.Stamps
pub use Rattle.convoy_sim.specs.Delivery
-- What a search and a check rest on: boxes of delays with their members and halves, bounds, boxes with what is kept of them, and the laws of these. There are no words of the program's own parts.
pub mod Boxes
pub mod Bounds
pub mod Spans
pub mod Tracked
pub mod BoxLaws
