pub use Rattle.convoy_scenario.specs.Scenario
pub use Rattle.convoy_scenario.specs.WellFormed
pub use Rattle.convoy_packets.specs.Assignment
pub use Rattle.convoy_sim.specs.Delivery
pub use Rattle.convoy_sure.specs.Windows
pub use Rattle.convoy_leads.specs.Closing
pub use Rattle.convoy_regions.specs.Stages
pub use Rattle.convoy_regions.specs.Regions
-- What a caller reads: the windows of a region, and what is proved of them.
pub mod Narrowing
pub mod NarrowingLaws
