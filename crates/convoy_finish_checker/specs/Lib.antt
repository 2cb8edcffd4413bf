-- what a reader has to know of the crates below
pub use Rattle.convoy_scenario.specs.Scenario
pub use Rattle.convoy_certificate.specs.Certificate
pub use Rattle.convoy_certificate.specs.Text
pub use Rattle.convoy_lines.specs.Texts
pub use Rattle.convoy_finishes.specs.Finishes
pub use Rattle.convoy_finishes.specs.FinishClosing
pub use Rattle.convoy_commands.specs.Refusals
-- what a reader has to believe: the text of a certificate of finishes, what one has to meet, and what is proved of it
pub mod FinishTexts
pub mod FinishValidity
pub mod FinishCheckLaws
pub mod FinishRefusals
