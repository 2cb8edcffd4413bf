pub mod Labels
pub mod LineLaws
pub mod Chains
pub mod Places
pub mod Results
pub mod Texts
pub mod Words
