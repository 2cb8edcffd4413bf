pub use Rattle.convoy_shares.specs.Shares
pub use Rattle.convoy_sim.specs.Record
pub use Rattle.convoy_sim.specs.Greatest
pub mod Boards
pub mod Faults
pub mod Rule
