pub mod BranchLists
pub mod Closing
pub mod LawfulEvents
pub mod CoreSteps
pub mod Endings
pub mod EventLists
mod MachineRows
