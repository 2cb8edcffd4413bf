pub mod Drawing
pub mod Enclosing
pub mod Giving
pub mod Making
mod Worked
