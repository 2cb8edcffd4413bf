use Rattle.std.proofs.Common.{ap, ◌∙◌}
use Rattle.convoy_lines.specs.Labels.{number_in}
use Rattle.convoy_lines.proofs.LabelLemmas.{number_line_takes, number_line_again}
use Rattle.convoy_lines.proofs.line_laws.number_lines.Goals as goal

pub returns : goal.returns
returns c label line number is =
    (number_line_takes label line number, λ written. ap (number_in label) written.0 ∙ number_line_again label number is written.1)
