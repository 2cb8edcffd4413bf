-- what a reader has to believe: what rows are made
pub mod Rows
