use Rattle.std.proofs.Common.{◌∙◌, ap}
use Rattle.std.specs.Option.{option_copied}
use Rattle.convoy_lines.specs.Places.{upcoming}
use Rattle.convoy_lines.proofs.Splitting.{comes_next}
use Rattle.convoy_lines.proofs.line_reader.LineReader.upcoming.Goals as goal

pub returns : goal.returns
returns c =
    comes_next c.self.inside.rest.now c.cut.result.0.now (option_copied c.cut.result.1) c.self.inside.number c.cut.ensures.front c.cut.ensures.whole
    ∙ ap upcoming c.self.view_is
