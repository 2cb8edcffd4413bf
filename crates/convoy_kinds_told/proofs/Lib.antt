pub mod Numerals
pub mod Greatest
