pub use Rattle.convoy_scenario.specs.Scenario
pub use Rattle.convoy_certificate.specs.Certificate
pub use Rattle.convoy_intervals.specs.Boxes
pub use Rattle.convoy_regions.specs.Stages
pub use Rattle.convoy_regions.specs.Regions
pub use Rattle.convoy_regions.specs.Branches
pub use Rattle.convoy_branch.specs.Fronts
pub use Rattle.convoy_share_deque.specs.Tasks
-- What workers promise: the pieces of a tree, the trees of one worker, how all trees become one, and the laws of all that.
pub mod Pieces
pub mod Subtrees
pub mod Filling
pub mod Turns
pub mod SharedTreeLaws
-- What the program's own parts say: a tree under way, and what a worker has in hand.
pub mod Kept
pub mod Growing
pub mod Means
pub mod Halves
pub mod Common
pub mod Workers
pub mod Opening
pub mod Finishing
pub mod Ended
