pub use Rattle.convoy_scenario.specs.Scenario
pub use Rattle.convoy_packets.specs.Assignment
pub use Rattle.convoy_sim.specs.Record
pub use Rattle.convoy_intervals.specs.Boxes
pub use Rattle.convoy_starts.specs.Links
pub use Rattle.convoy_leads.specs.Openings
-- What a caller reads.
pub mod Wishes
-- Where the program stands between two runs: no promise rests on it.
pub mod Wishing
