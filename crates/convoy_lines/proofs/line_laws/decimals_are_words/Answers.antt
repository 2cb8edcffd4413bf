use Rattle.convoy_lines.proofs.Spelling.{decimal_word}
use Rattle.convoy_lines.proofs.line_laws.decimals_are_words.Goals as goal

pub returns : goal.returns
returns c = decimal_word
