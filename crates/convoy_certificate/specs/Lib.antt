-- what a reader has to know of the crates below
pub use Rattle.convoy_lines.specs.Labels
pub use Rattle.convoy_lines.specs.Chains
pub use Rattle.convoy_lines.specs.Places
pub use Rattle.convoy_lines.specs.Results
pub use Rattle.convoy_lines.specs.Texts
pub use Rattle.convoy_lines.specs.Words
pub use Rattle.convoy_packets.specs.Assignment
pub use Rattle.convoy_packets.specs.Order
pub use Rattle.convoy_packets.specs.OrderLists
pub use Rattle.convoy_scenario_lines.specs.LineReading
pub use Rattle.convoy_scenario_lines.specs.ScenarioLines
pub use Rattle.convoy_scenario.specs.Memory
pub use Rattle.convoy_scenario.specs.Scenario
pub use Rattle.convoy_scenario.specs.WellFormed
-- what a reader has to believe: what a certificate says, its text, and what is proved of texts
pub mod Certificate
pub mod Text
pub mod CertificateLaws
-- which text is read as what, and which fault it has
pub mod Forms
pub mod TextForms
pub mod Reading
