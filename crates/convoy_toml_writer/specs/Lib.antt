-- what a reader has to know of the crates below
pub use Rattle.convoy_draft.specs.Durations
pub use Rattle.convoy_scenario.specs.Scenario
pub use Rattle.convoy_scenario.specs.WellFormed
pub use Rattle.convoy_packets.specs.Assignment
pub use Rattle.convoy_packets.specs.Given
pub use Rattle.convoy_packets.specs.Order
pub use Rattle.convoy_packets.specs.OrderLists
pub use Rattle.convoy_toml.specs.Reading
-- what a reader has to believe: the text that is written, and what is read of it
pub mod Text
pub mod WrittenTextLaws
