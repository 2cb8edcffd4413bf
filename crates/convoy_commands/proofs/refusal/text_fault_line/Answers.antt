use Rattle.std.proofs.Common.{sym, append_assoc}
use Rattle.std.specs.Fmt.{digits}
use Rattle.convoy_commands.specs.Refusals.{refused_line}
use Rattle.convoy_commands.proofs.refusal.text_fault_line.Goals as goal

pub returns-in-Line : goal.returns-in-Line
unfolding refused_line digits
returns-in-Line c = simp (c.in-Line.is, sym c.word_of_line-word.ensures, append_assoc) c.format.ensures.ok

pub returns-in-Schedule : goal.returns-in-Schedule
unfolding refused_line digits
returns-in-Schedule c = rw c.in-Schedule.is c.from_str.ensures.ok

pub returns-in-TreeCount : goal.returns-in-TreeCount
unfolding refused_line digits
returns-in-TreeCount c = rw c.in-TreeCount.is c.from_str-in-TreeCount.ensures.ok

pub returns-in-AfterEnd : goal.returns-in-AfterEnd
unfolding refused_line digits
returns-in-AfterEnd c = rw c.in-AfterEnd.is c.from_str-in-AfterEnd.ensures.ok

pub returns-in-Memory : goal.returns-in-Memory
unfolding refused_line digits
returns-in-Memory c = rw c.in-Memory.is c.from_str-in-Memory.ensures.ok
