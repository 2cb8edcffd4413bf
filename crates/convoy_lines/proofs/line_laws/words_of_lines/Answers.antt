use Rattle.std.proofs.Common.{ap, ◌∙◌}
use Rattle.std.proofs.lemmas.List.Elements.{All-tail, All-head, recursion_from_All}
use Rattle.convoy_lines.specs.LineLaws.{IsWord}
use Rattle.convoy_lines.specs.Words.{words_of}
use Rattle.convoy_lines.proofs.Spelling.{line_takes, words_again}
use Rattle.convoy_lines.proofs.line_laws.words_of_lines.Goals as goal

pub returns : goal.returns
returns c line word words = (
  line_takes line word words,
  λ are made. ap words_of made ∙ words_again word words (All-head IsWord word words are).spaceless
      (recursion_from_All IsWord words (All-tail IsWord word words are)),
)
