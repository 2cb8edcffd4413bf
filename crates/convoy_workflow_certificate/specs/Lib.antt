-- what a reader has to know of the crates below
pub use Rattle.convoy_certificate.specs.Certificate
pub use Rattle.convoy_certificate.specs.Text
pub use Rattle.convoy_lines.specs.Texts
pub use Rattle.convoy_causes.specs.Causes
-- what a reader has to believe: the text of a certificate of a workflow
pub mod WorkflowTexts
