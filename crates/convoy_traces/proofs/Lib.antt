pub mod Chains
pub mod Numbers
pub mod Lines
