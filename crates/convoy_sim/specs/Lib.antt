pub use Rattle.convoy_scenario.specs.Memory
pub use Rattle.convoy_scenario.specs.Scenario
pub use Rattle.convoy_scenario.specs.WellFormed
pub use Rattle.convoy_packets.specs.Packets
pub use Rattle.convoy_packets.specs.Assignment
pub use Rattle.convoy_packets.specs.Table
-- What the promises rest on: the protocol from arrival to latency, what a run tells of it, a schedule with its latency, the greatest latency, and the laws of these.
pub mod Times
pub mod Moments
pub mod Stamps
pub mod Delivery
pub mod Run
pub mod Record
pub mod Greatest
pub mod ProtocolLaws
pub mod RaiseLaws
pub mod RunLaws
pub mod Traffic
-- Words of the program's own parts: no promise above this crate rests on them.
pub mod Places
pub mod Timetable
pub mod Keys
pub mod Agenda
pub mod StampTables
pub mod Deliveries
pub mod Progress
pub mod Scheduled
