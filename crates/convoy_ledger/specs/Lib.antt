pub use Rattle.convoy_shares.specs.Shares
pub mod Tickets
pub mod Rule
