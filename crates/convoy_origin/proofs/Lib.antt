pub mod Lists
pub mod PacketDelays
pub mod SameRun
pub mod Delivered
pub mod LaterRuns
pub mod LaterStages
pub mod WidenedParts
pub mod WidenedRuns
pub mod WidenedBoxes
pub mod MovedRanges
pub mod WidenedRegions
pub mod WidenedItself
pub mod WidenedTables
pub mod ToldBound
pub mod FromIssue
pub mod Exact
mod Rows
