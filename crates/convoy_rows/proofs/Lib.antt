mod Placing
pub mod OfKeys
