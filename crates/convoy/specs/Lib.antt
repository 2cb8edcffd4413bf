-- what a reader has to know of the crates below
pub use Rattle.convoy_arguments.specs.Verdicts as CommandLines
pub use Rattle.convoy_streams.specs.Inputs
pub use Rattle.convoy_streams.specs.Sources
-- what a reader has to believe: what the program does for what its command line asks for, and with which inputs
pub mod Verdicts
pub mod Obeying
