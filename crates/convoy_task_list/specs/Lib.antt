-- what a reader has to know of the crates below
pub use Rattle.convoy_outages.specs.Spans
pub use Rattle.convoy_toml.specs.Reading
-- what a reader has to believe: which outages a written time tells
pub mod Outages
