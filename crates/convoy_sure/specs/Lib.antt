pub use Rattle.convoy_scenario.specs.Memory
pub use Rattle.convoy_scenario.specs.Scenario
pub use Rattle.convoy_scenario.specs.WellFormed
pub use Rattle.convoy_packets.specs.Packets
pub use Rattle.convoy_packets.specs.Assignment
pub use Rattle.convoy_packets.specs.Table
pub use Rattle.convoy_sim.specs.Times
pub use Rattle.convoy_sim.specs.Moments
pub use Rattle.convoy_sim.specs.Stamps
pub use Rattle.convoy_sim.specs.Delivery
pub use Rattle.convoy_intervals.specs.Boxes
pub use Rattle.convoy_intervals.specs.Bounds
pub use Rattle.convoy_stamps.specs.Reach
-- What a caller reads: the windows of a box, sure leads, and the laws of these.
pub mod Windows
pub mod SureLeads
pub mod SureLaws
-- Words of the crate's own parts: no promise rests on them.
pub mod Below
pub mod Filling
