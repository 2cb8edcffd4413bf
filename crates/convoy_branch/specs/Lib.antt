pub use Rattle.convoy_scenario.specs.Memory
pub use Rattle.convoy_scenario.specs.Scenario
pub use Rattle.convoy_packets.specs.Assignment
pub use Rattle.convoy_packets.specs.Table
pub use Rattle.convoy_sim.specs.Delivery
pub use Rattle.convoy_sim.specs.Record
pub use Rattle.convoy_intervals.specs.Boxes
pub use Rattle.convoy_intervals.specs.Bounds
pub use Rattle.convoy_intervals.specs.Tracked
pub use Rattle.convoy_regions.specs.Stages
pub use Rattle.convoy_regions.specs.Regions
pub use Rattle.convoy_regions.specs.Branches
pub use Rattle.convoy_stamps.specs.StampBounds
pub use Rattle.convoy_leads.specs.Closing
pub use Rattle.convoy_narrowing.specs.Narrowing
pub use Rattle.convoy_leads.specs.Openings
pub use Rattle.convoy_origin.specs.Widened
pub use Rattle.convoy_origin.specs.WidenedRegions
pub use Rattle.convoy_origin.specs.FromOrigin
pub use Rattle.convoy_certificate.specs.Certificate
pub use Rattle.convoy_certificate.specs.Text
pub use Rattle.convoy_checker.specs.Trees
pub use Rattle.convoy_checker.specs.Leaves
pub use Rattle.convoy_checker.specs.Validity
-- What a search promises: the bounds by which it goes, which regions it closes, what it tells of those that are left, a step over a region, how far a search has come, what it answers, alone, in several passes and both ways, how far it may go, and the laws of fronts.
pub mod SearchBounds
pub mod Options
pub mod Uppers
pub mod Steps
pub mod Fronts
pub mod Outcomes
pub mod Limits
pub mod Passes
pub mod BothWays
pub mod FrontLaws
-- Where the program stands between two steps: no promise above this crate rests on it.
pub mod FromIssue
pub mod Asked
pub mod Looks
pub mod Searching
-- Words for where a box is split: no promise rests on them.
pub mod Chains
-- Words for seeking from above: no promise rests on them.
pub mod Aims
