use Rattle.std.proofs.Common.{append_assoc, sym}
use Rattle.std.specs.Fmt.{digits}
use Rattle.convoy_commands.specs.Refusals.{refused_line}
use Rattle.convoy_finish_checker.proofs.refusal_lines.line_of_text.Goals as goal

pub returns-in-Line : goal.returns-in-Line
unfolding refused_line digits
returns-in-Line c = simp (c.in-Line.is, sym c.word_of_line-word.ensures, append_assoc) c.format.ensures.ok

pub returns-in-Spelling : goal.returns-in-Spelling
unfolding refused_line digits
returns-in-Spelling c = rw c.in-Spelling.is c.from_str.ensures.ok

pub returns-in-Memory : goal.returns-in-Memory
unfolding refused_line digits
returns-in-Memory c = rw c.in-Memory.is c.from_str-in-Memory.ensures.ok
