pub mod Lengths
pub mod FixedOrders
