mod Rows
pub mod FewLinks
pub mod LinkLemmas
pub mod LinkPlaces
pub mod NumberLemmas
pub mod NumberedLemmas
pub mod GivenScenarios
pub mod KeptRanges
pub mod PlaceLemmas
pub mod NumberedAgain
pub mod OtherTargets
pub mod DraftAgain
pub mod RoomLemmas
pub mod RowScenarios
pub mod WidenedLemmas
pub mod TakingTime
