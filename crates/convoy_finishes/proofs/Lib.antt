pub mod Latest
pub mod ClosedFinishes
pub mod WidenedFinishes
pub mod FinerFinishes
pub mod Reached
pub mod Told
mod Rows
