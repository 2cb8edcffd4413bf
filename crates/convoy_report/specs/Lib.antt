-- what a reader has to know of the crates below
pub use Rattle.convoy_scenario.specs.Scenario
pub use Rattle.convoy_branch.specs.Options
pub use Rattle.convoy_tables.specs.Tables
pub use Rattle.convoy_tables.specs.Formats
pub use Rattle.convoy_commands.specs.Searches
pub use Rattle.convoy_commands.specs.Asks
pub use Rattle.convoy_commands.specs.Tells
pub use Rattle.convoy_survey.specs.Surveys
pub use Rattle.convoy_what_if.specs.WhatIf
pub use Rattle.convoy_budget.specs.Ways
-- what a reader has to believe: how a page is written, and that what it tells is what the other commands answer
pub mod Systems
pub mod Pages
pub mod Reports
-- for private clauses
pub mod Runs
