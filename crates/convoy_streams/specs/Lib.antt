-- what a call answers, and what the calls of a run answer together
pub mod Devices
pub mod Reads
pub mod Writes
pub mod Jobs
pub mod StreamLaws
-- words of single devices: those in memory, and the standard library's streams
pub mod Streams
-- how far a splitter has come, and what a byte does to the line that is being read
pub mod Steps
pub mod Splitting
pub mod Inputs
pub mod Sources
