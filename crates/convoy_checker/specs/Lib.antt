pub use Rattle.convoy_scenario.specs.Memory
pub use Rattle.convoy_scenario.specs.Scenario
pub use Rattle.convoy_scenario.specs.WellFormed
pub use Rattle.convoy_packets.specs.Assignment
pub use Rattle.convoy_packets.specs.Table
pub use Rattle.convoy_sim.specs.Delivery
pub use Rattle.convoy_intervals.specs.Boxes
pub use Rattle.convoy_intervals.specs.Bounds
pub use Rattle.convoy_regions.specs.Stages
pub use Rattle.convoy_regions.specs.Regions
pub use Rattle.convoy_stamps.specs.Reach
pub use Rattle.convoy_sure.specs.SureLeads
pub use Rattle.convoy_sure.specs.Windows
pub use Rattle.convoy_origin.specs.Widened
pub use Rattle.convoy_origin.specs.WidenedRegions
pub use Rattle.convoy_origin.specs.FromOrigin
pub use Rattle.convoy_certificate.specs.Certificate
-- What a valid certificate is, which fault is told, how much work it is to check one, and the laws of these. What a yes means does not rest on these words,
-- since it is proved that the latency of a valid certificate is the greatest.
pub mod Trees
pub mod Leaves
pub mod Validity
pub mod Checks
pub mod Steps
pub mod TreeLaws
-- How the program goes over a tree: no promise above this crate rests on it.
pub mod Walks
pub mod Looks
