mod Rows
pub mod KeyLemmas
pub mod Loops
pub mod Members
pub mod Found
pub mod Drafted
pub mod Keeping
pub mod OfSites
pub mod Homes
pub mod ArePlans
pub mod Counting
pub mod Judged
pub mod Passing
pub mod OfMessages
