-- what a reader has to know of the crates below
pub use Rattle.convoy_commands.specs.Options
-- what a reader has to believe: which input a command line names, what a text may have, and what is asked for
pub mod Inputs
pub mod Texts
pub mod Verdicts
