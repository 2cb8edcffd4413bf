use Rattle.std.proofs.Common.{◌∙◌, ap}
use Rattle.convoy_lines.specs.Places.{is_at_end}
use Rattle.convoy_lines.proofs.Splitting.{is_over}
use Rattle.convoy_lines.proofs.line_reader.LineReader.at_end.Goals as goal

pub returns : goal.returns
returns c = c.is_empty.ensures ∙ is_over c.self.inside.rest.now c.self.inside.number ∙ ap is_at_end c.self.view_is
