mod Rows
pub mod Known
pub mod Worst
pub mod Passing
pub mod OfLeasts
pub mod Noting
pub mod Bounding
pub mod Chosen
