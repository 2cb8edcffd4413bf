pub use Rattle.convoy_scenario.specs.Memory
pub use Rattle.convoy_scenario.specs.Scenario
pub use Rattle.convoy_scenario.specs.WellFormed
pub use Rattle.convoy_packets.specs.Packets
pub use Rattle.convoy_packets.specs.Assignment
pub use Rattle.convoy_packets.specs.Table
pub use Rattle.convoy_sim.specs.Times
pub use Rattle.convoy_sim.specs.Moments
pub use Rattle.convoy_sim.specs.Stamps
pub use Rattle.convoy_sim.specs.Delivery
pub use Rattle.convoy_intervals.specs.Bounds
pub use Rattle.convoy_stamps.specs.Reach
pub use Rattle.convoy_sure.specs.Windows
pub use Rattle.convoy_sure.specs.SureLeads
-- What a caller reads: starts and the stamps that may rise from them, what of that decides a test, and links.
pub mod Starts
pub mod Tests
pub mod Links
-- The laws of the crates below on which those of stamps stand.
pub mod Below
-- Words of the crate's own parts: no promise rests on them.
pub mod Mosts
pub mod Changes
