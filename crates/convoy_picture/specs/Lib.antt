-- what a reader has to know of the crates below
pub use Rattle.convoy_scenario.specs.Scenario
pub use Rattle.convoy_packets.specs.Packets
pub use Rattle.convoy_packets.specs.Assignment
pub use Rattle.convoy_packets.specs.Table
pub use Rattle.convoy_sim.specs.Run
pub use Rattle.convoy_timeline.specs.Timeline
pub use Rattle.convoy_timeline.specs.Causes
pub use Rattle.convoy_timeline.specs.Explanations
-- what a reader has to believe: what is drawn of a run, what each message is to its target, and what is told of it in words
pub mod Pictures
pub mod Roles
pub mod Words
