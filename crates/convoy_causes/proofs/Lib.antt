pub mod CutByCauses
mod Delivered
pub mod Before
pub mod MovedCauses
pub mod ClosedCauses
pub mod Turns
pub mod Told
mod NarrowedWindows
mod Effects
