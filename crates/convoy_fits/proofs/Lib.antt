pub mod Fine
pub mod Lengths
pub mod Compared
pub mod Judged
pub mod Outside
pub mod Skewed
