pub mod Ended
pub mod FoundCases
pub mod AllFound
