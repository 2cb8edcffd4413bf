-- what a reader has to know of the crates below
pub use Rattle.convoy_lines.specs.Texts
pub use Rattle.convoy_draft.specs.Durations
pub use Rattle.convoy_scenario.specs.Scenario
-- how times are told
pub mod Measures
-- what is proved of that
pub mod TimeLaws
