pub use Rattle.convoy_scenario.specs.Memory
pub use Rattle.convoy_scenario.specs.Scenario
pub use Rattle.convoy_packets.specs.Assignment
pub use Rattle.convoy_packets.specs.Table
pub use Rattle.convoy_sim.specs.Delivery
pub use Rattle.convoy_sim.specs.Record
pub use Rattle.convoy_intervals.specs.Boxes
pub use Rattle.convoy_regions.specs.Stages
pub use Rattle.convoy_regions.specs.Regions
pub use Rattle.convoy_certificate.specs.Certificate
pub use Rattle.convoy_checker.specs.Checks
pub use Rattle.convoy_checker.specs.Leaves
pub use Rattle.convoy_checker.specs.Trees
-- The search of many workers as a machine, what holds in each state that it comes to, and which boxes may be closed.
pub mod Machine
pub mod Replays
pub mod MachineLaws
