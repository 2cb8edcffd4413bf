use Rattle.std.proofs.Common.{ap, ◌∙◌}
use Rattle.std.proofs.lemmas.List.Elements.{All-tail, All-head, recursion_from_All}
use Rattle.convoy_lines.specs.LineLaws.{IsWord}
use Rattle.convoy_lines.specs.Labels.{words_after}
use Rattle.convoy_lines.proofs.LabelLemmas.{label_takes, label_again}
use Rattle.convoy_lines.proofs.line_laws.labelled_lines.Goals as goal

pub returns : goal.returns
returns c label line words = (
  label_takes label line words,
  λ are made. ap (words_after label) made ∙ label_again label words (All-head IsWord label words are)
      (recursion_from_All IsWord words (All-tail IsWord label words are)),
)
