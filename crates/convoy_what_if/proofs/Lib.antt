pub mod Loops
pub mod Savings
pub mod Tries
pub mod Numbers
pub mod Told
mod Broken
