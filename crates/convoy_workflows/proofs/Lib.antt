pub mod KeyLemmas
pub mod Loops
pub mod Drafted
pub mod Windowed
pub mod Places
pub mod Lawful
