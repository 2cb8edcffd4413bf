-- what a reader has to know of the crates below
pub use Rattle.convoy_timeline.specs.Explanations
pub use Rattle.convoy_draw.specs.Drawings
-- what a reader has to believe: what the image of a curve tells
pub mod Curves
