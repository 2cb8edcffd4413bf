mod Rows
mod Flexible
mod CsvAgain
mod JsonAgain
pub mod Numbers
pub mod Pieces
