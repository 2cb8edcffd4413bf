pub mod Ascii
pub mod Fractions
pub mod Reading
mod Rows
pub mod Telling
pub mod Tens
