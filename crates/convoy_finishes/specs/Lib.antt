-- what a reader has to know of the crates below
pub use Rattle.convoy_scenario.specs.Memory
pub use Rattle.convoy_scenario.specs.Scenario
pub use Rattle.convoy_scenario.specs.WellFormed
pub use Rattle.convoy_scenario.specs.Widened as WidenedScenarios
pub use Rattle.convoy_packets.specs.Packets
pub use Rattle.convoy_packets.specs.Order
pub use Rattle.convoy_packets.specs.Assignment
pub use Rattle.convoy_sim.specs.Times
pub use Rattle.convoy_sim.specs.Stamps
pub use Rattle.convoy_sim.specs.Delivery
pub use Rattle.convoy_sim.specs.ProtocolLaws
pub use Rattle.convoy_laws.specs.FinerTicks
-- what a reader has to believe: when messages are finished and the target is delivered, and which ways there are in replicated groups
pub mod Finishes
pub mod WhiteBox
-- how it is shown that no delivery is later, and what is proved of that
pub mod FinishClosing
pub mod FinishLaws
-- words of the program's own parts: no promise rests on them
pub mod FinishRuns
pub mod Climbing
