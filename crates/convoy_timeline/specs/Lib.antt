pub use Rattle.convoy_packets.specs.Table
pub use Rattle.convoy_packets.specs.Assignment
pub use Rattle.convoy_packets.specs.Packets
pub use Rattle.convoy_scenario.specs.Naming
-- what a reader has to know of the crates below
pub use Rattle.convoy_scenario.specs.Scenario
pub use Rattle.convoy_sim.specs.Run
-- what a reader has to believe: the text of a run's timeline
pub mod Timeline
-- words of the program's own parts
pub mod Told
pub mod Causes
pub mod Explanations
pub mod PacketLists
pub mod ExplanationLaws
pub mod RunWords
pub mod RiseWords
pub mod ExplanationWords
