pub mod BatchFailures
pub mod BatchRuns
pub mod Blocks
pub mod JobCells
pub mod KeptRows
pub mod Labels
pub mod WorkedCells
