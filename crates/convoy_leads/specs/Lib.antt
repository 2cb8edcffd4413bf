pub use Rattle.convoy_scenario.specs.Memory
pub use Rattle.convoy_scenario.specs.Scenario
pub use Rattle.convoy_scenario.specs.WellFormed
pub use Rattle.convoy_packets.specs.Packets
pub use Rattle.convoy_packets.specs.Order
pub use Rattle.convoy_packets.specs.Assignment
pub use Rattle.convoy_packets.specs.Table
pub use Rattle.convoy_sim.specs.Times
pub use Rattle.convoy_sim.specs.Moments
pub use Rattle.convoy_sim.specs.Stamps
pub use Rattle.convoy_sim.specs.Delivery
pub use Rattle.convoy_intervals.specs.Boxes
pub use Rattle.convoy_intervals.specs.Bounds
pub use Rattle.convoy_stamps.specs.Reach
pub use Rattle.convoy_sure.specs.Windows
pub use Rattle.convoy_sure.specs.SureLeads
pub use Rattle.convoy_starts.specs.Starts
pub use Rattle.convoy_starts.specs.Links
-- What a caller of leads reads: leads, what it is to be closed by leads, and the laws of these.
pub mod Leads
pub mod Closing
pub mod LeadLaws
-- What is told of a box that leads leave open.
pub mod Openings
