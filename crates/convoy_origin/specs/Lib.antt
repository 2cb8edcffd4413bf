pub use Rattle.convoy_scenario.specs.Scenario
pub use Rattle.convoy_scenario.specs.WellFormed
pub use Rattle.convoy_scenario.specs.Widened as WidenedScenarios
pub use Rattle.convoy_packets.specs.Packets
pub use Rattle.convoy_packets.specs.Assignment
pub use Rattle.convoy_sim.specs.Times
pub use Rattle.convoy_sim.specs.Moments
pub use Rattle.convoy_sim.specs.Stamps
pub use Rattle.convoy_sim.specs.Delivery
pub use Rattle.convoy_sim.specs.Greatest
pub use Rattle.convoy_intervals.specs.Boxes
pub use Rattle.convoy_intervals.specs.Bounds
pub use Rattle.convoy_stamps.specs.StampBounds
pub use Rattle.convoy_regions.specs.Regions
pub use Rattle.convoy_narrowing.specs.Narrowing
pub use Rattle.convoy_regions.specs.Branches
-- A run that is another one, so many ticks later.
pub mod Later
-- A scenario in which the target may wait, told as one in which it does not.
pub mod Widened
-- Its boxes with their tables, and its regions.
pub mod WidenedBoxes
pub mod WidenedTables
pub mod WidenedRegions
-- What bounds and leads say of a region, counted from the target's issue whenever that is.
pub mod FromOrigin
pub mod FromOriginLaws
pub mod Origins
