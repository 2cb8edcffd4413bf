pub use Rattle.convoy_scenario.specs.Memory
pub use Rattle.convoy_scenario.specs.Scenario
pub use Rattle.convoy_scenario.specs.WellFormed
pub use Rattle.convoy_packets.specs.Packets
pub use Rattle.convoy_packets.specs.Assignment
pub use Rattle.convoy_packets.specs.Table
pub use Rattle.convoy_sim.specs.Times
pub use Rattle.convoy_sim.specs.Moments
pub use Rattle.convoy_sim.specs.Stamps
pub use Rattle.convoy_sim.specs.Delivery
pub use Rattle.convoy_intervals.specs.Boxes
pub use Rattle.convoy_intervals.specs.Bounds
-- What a caller of the stamp bound reads: what is reached step by step, the reach of a local stamp, the bound, and the laws of these.
pub mod Closures
pub mod Reach
pub mod StampBounds
pub mod StampBoundLaws
-- Words of the crate's own parts: no promise rests on them.
pub mod Spans
