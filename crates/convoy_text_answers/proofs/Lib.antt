pub mod Withins
pub mod Yeses
