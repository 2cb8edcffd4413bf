use Rattle.std.proofs.lemmas.List.Elements.{All-tail, All-head, recursion_from_All}
use Rattle.convoy_lines.specs.LineLaws.{IsWord}
use Rattle.convoy_lines.proofs.Spelling.{line_lacks}
use Rattle.convoy_lines.proofs.line_laws.words_make_lines.Goals as goal

pub returns : goal.returns
returns c word words are =
    line_lacks word words (All-head IsWord word words are).endless (recursion_from_All IsWord words (All-tail IsWord word words are))
