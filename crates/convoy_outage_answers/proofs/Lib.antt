pub mod RowsOfMessages
pub mod EachTarget
pub mod SurveyedRows
pub mod Narrowing
pub mod LatencyTexts
