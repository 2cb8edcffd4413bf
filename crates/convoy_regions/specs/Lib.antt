pub use Rattle.convoy_scenario.specs.Scenario
pub use Rattle.convoy_scenario.specs.WellFormed
pub use Rattle.convoy_packets.specs.Assignment
pub use Rattle.convoy_packets.specs.Order
pub use Rattle.convoy_packets.specs.OrderLists
pub use Rattle.convoy_packets.specs.Table
pub use Rattle.convoy_sim.specs.Moments
pub use Rattle.convoy_sim.specs.Delivery
pub use Rattle.convoy_intervals.specs.Boxes
pub use Rattle.convoy_intervals.specs.Tracked
-- What a reader has to believe: stages and which comes before which, regions, and what is proved of them.
pub mod Stages
pub mod Regions
pub mod Branches
pub mod RegionLaws
-- Words of the program's own parts: no promise above this crate rests on them.
pub mod Known
