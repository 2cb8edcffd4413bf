pub mod Used
pub mod Worked
pub mod Commits
pub mod Bound
pub mod Ordinary
pub mod Rows
