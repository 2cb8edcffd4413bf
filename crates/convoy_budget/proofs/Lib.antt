pub mod Loops
pub mod Each
pub mod Verdicts
pub mod Telling
pub mod Wider
pub mod Holding
pub mod Refusals
