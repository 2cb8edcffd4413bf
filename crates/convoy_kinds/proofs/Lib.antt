pub mod AllKinds
pub mod Paired
pub mod PairScenarios
pub mod PairTraffic
pub mod FirstPassing
pub mod KeyLemmas
pub mod Loops
pub mod Formed
mod Worked
