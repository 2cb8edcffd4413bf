pub use Rattle.convoy_scenario.specs.Memory
pub use Rattle.convoy_scenario.specs.Scenario
pub use Rattle.convoy_scenario.specs.WellFormed
-- What the promises rest on: the packet list, the schedules of their delays, a schedule as a list of numbers, and the laws of these.
pub mod Packets
pub mod Order
pub mod Assignment
pub mod Table
pub mod Given
pub mod OrderLists
pub mod ScheduleLaws
-- How the program looks up packets: no promise above this crate rests on it.
pub mod Slots
