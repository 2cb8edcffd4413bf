pub mod Cutting
pub mod Digits
pub mod LabelLemmas
pub mod Spelling
pub mod Splitting
