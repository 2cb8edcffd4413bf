-- what a reader has to know of the crates below
pub use Rattle.convoy_scenario.specs.Scenario
pub use Rattle.convoy_scenario.specs.Memory
pub use Rattle.convoy_kinds.specs.Kinds
pub use Rattle.convoy_kinds.specs.Pairs
pub use Rattle.convoy_kinds.specs.Ceilings
pub use Rattle.convoy_kinds.specs.Reading
pub use Rattle.convoy_times.specs.Measures
pub use Rattle.convoy_tables.specs.Tables
pub use Rattle.convoy_tables.specs.Formats
pub use Rattle.convoy_ceiling.specs.Ceiling
pub use Rattle.convoy_ceiling.specs.Finding
pub use Rattle.convoy_toml_writer.specs.Text as ScenarioText
pub use Rattle.convoy_sim.specs.Record
-- what a reader has to believe: the table of ceilings, and what is told of the greatest
pub mod KindTables
pub mod Worst
