use Rattle.std.proofs.Common.{ap, subst, ◌∙◌, All}
use Rattle.std.proofs.lemmas.List.Elements.{All-from_recursion, recursion_from_All}
use Rattle.convoy_lines.specs.LineLaws.{IsLine}
use Rattle.convoy_lines.specs.Places.{Lines, lines_in}
use Rattle.convoy_lines.proofs.Spelling.{text_takes, lines_are, lines_again}
use Rattle.convoy_lines.proofs.line_laws.lines_of_texts.Goals as goal

pub returns : goal.returns
returns c text lines = (
  λ read. (
    text_takes text lines read,
    subst (λ (l : Lines). All IsLine l.ended) read (All-from_recursion IsLine (lines_in text).ended (lines_are text)),
  ),
  λ written. ap lines_in written.0 ∙ lines_again lines (recursion_from_All IsLine lines written.1),
)
