pub mod Rows
pub mod LedLaw
pub mod ClosingLaws
pub mod LedTests
pub mod Rivals
