pub use Rattle.convoy_shares.specs.Shares
pub use Rattle.convoy_scenario.specs.Scenario
pub use Rattle.convoy_intervals.specs.Boxes
pub use Rattle.convoy_regions.specs.Stages
pub use Rattle.convoy_regions.specs.Regions
pub use Rattle.convoy_regions.specs.Branches
pub mod Tasks
pub mod Rule
