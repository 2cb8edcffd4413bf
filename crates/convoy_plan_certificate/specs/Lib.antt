-- what a reader has to know of the crates below
pub use Rattle.convoy_certificate.specs.Certificate
pub use Rattle.convoy_certificate.specs.Reading
pub use Rattle.convoy_certificate.specs.Text
pub use Rattle.convoy_lines.specs.Texts
pub use Rattle.convoy_packets.specs.Assignment
pub use Rattle.convoy_packets.specs.Order
pub use Rattle.convoy_packets.specs.OrderLists
pub use Rattle.convoy_scenario.specs.Scenario
-- what a reader has to believe: the text of a certificate of a plan, and the schedules of witnesses
pub mod PlanTexts
pub mod Schedules
