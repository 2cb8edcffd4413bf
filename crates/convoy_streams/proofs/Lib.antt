pub mod FailureCounts
pub mod Pieces
pub mod Growth
pub mod Stepping
