pub mod NoSooner
pub mod Between
pub mod Ended
mod Proved
