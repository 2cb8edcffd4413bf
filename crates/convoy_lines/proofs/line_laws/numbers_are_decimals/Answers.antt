use Rattle.std.proofs.Common.{ap, ◌∙◌}
use Rattle.convoy_lines.specs.Words.{number_of}
use Rattle.convoy_lines.proofs.Spelling.{number_takes, number_again}
use Rattle.convoy_lines.proofs.line_laws.numbers_are_decimals.Goals as goal

pub returns : goal.returns
returns c most word number fits =
    (λ read. number_takes most word number fits read, λ written. ap (number_of most) written.0 ∙ number_again most number fits written.1)
