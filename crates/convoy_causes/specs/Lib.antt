-- what a reader has to know of the crates below
pub use Rattle.convoy_scenario.specs.Memory
pub use Rattle.convoy_scenario.specs.Scenario
pub use Rattle.convoy_scenario.specs.WellFormed
pub use Rattle.convoy_scenario.specs.Widened as WidenedScenarios
pub use Rattle.convoy_packets.specs.Packets
pub use Rattle.convoy_packets.specs.Assignment
pub use Rattle.convoy_sim.specs.Times
pub use Rattle.convoy_sim.specs.Delivery
pub use Rattle.convoy_sure.specs.Windows
pub use Rattle.convoy_leads.specs.Closing
-- what a reader has to believe: when messages follow their causes, and which latency is the greatest then
pub mod Causes
-- how it is shown that no latency is greater, and what is proved of that
pub mod CauseWindows
pub mod CauseLaws
-- words of the program's own parts: no promise rests on them
pub mod CausedRuns
pub mod Climbing
