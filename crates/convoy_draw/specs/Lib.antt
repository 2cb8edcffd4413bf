-- what a reader has to know of the crates below
pub use Rattle.convoy_scenario.specs.Scenario
pub use Rattle.convoy_timeline.specs.Explanations
pub use Rattle.convoy_picture.specs.Pictures
pub use Rattle.convoy_picture.specs.Words
-- what a reader has to believe: what the image of a picture tells, what words are shown, and what its legend says
pub mod Drawings
pub mod Shown
pub mod Legends
-- words of the program's own parts
pub mod Layers
