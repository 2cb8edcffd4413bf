pub mod Checks
pub mod Draft
pub mod Durations
pub mod Keys
pub mod Limits
pub mod Names
