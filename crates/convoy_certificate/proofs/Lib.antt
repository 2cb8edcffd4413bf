pub mod Pieces
pub mod Nodes
pub mod Assigned
pub mod Steps
pub mod Orders
pub mod Taken
pub mod Parts
pub mod NodeLaws
pub mod Again
pub mod Lengths
mod Rows
