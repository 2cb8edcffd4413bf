mod Unions
mod Late
mod SameSums
mod Rows
mod Sums
mod Led
