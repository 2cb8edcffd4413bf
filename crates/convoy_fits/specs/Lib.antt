-- what a reader has to know of the crates below
pub use Rattle.convoy_scenario.specs.Scenario
pub use Rattle.convoy_packets.specs.Assignment
pub use Rattle.convoy_sim.specs.Greatest
pub use Rattle.convoy_laws.specs.FinerTicks
pub use Rattle.convoy_traces.specs.Traces
-- what a reader has to believe: what real runs are, what clocks tell, when a trace fits, when it departs, and which are judged
pub mod Runs
pub mod Skews
pub mod Fits
pub mod Departures
pub mod Limits
pub mod Answers
-- how both are tested
pub mod Finer
pub mod Tests
-- what is proved of traces that fit
pub mod FitsLaws
