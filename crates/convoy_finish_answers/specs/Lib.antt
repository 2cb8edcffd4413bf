-- what a reader has to know of the crates below
pub use Rattle.convoy_scenario.specs.Scenario
pub use Rattle.convoy_finishes.specs.Finishes
pub use Rattle.convoy_finishes.specs.WhiteBox
pub use Rattle.convoy_branch.specs.Outcomes
pub use Rattle.convoy_commands.specs.Searches
pub use Rattle.convoy_toml.specs.Reading
pub use Rattle.convoy_replicas.specs.Replicas
pub use Rattle.convoy_commands.specs.Verdicts
pub use Rattle.convoy_finish_checker.specs.FinishTexts
pub use Rattle.convoy_finish_checker.specs.FinishValidity
pub use Rattle.convoy_finish_checker.specs.FinishCheckLaws
-- what a reader has to believe: what is found of a target where replicas have to answer, what is read of texts that say so, and which certificates are written
pub mod AcceptedLatencies
pub mod AcceptedTexts
pub mod FinishProofs
