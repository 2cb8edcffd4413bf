use Rattle.std.specs.Fmt.{digits}
use Rattle.convoy_commands.specs.Refusals.{refused_line}
use Rattle.convoy_finish_checker.proofs.refusal_lines.line_of_check.Goals as goal

pub returns-in-Tree : goal.returns-in-Tree
unfolding refused_line digits
returns-in-Tree c = rw c.in-Tree.is c.from_str.ensures.ok

pub returns-in-Latency : goal.returns-in-Latency
unfolding refused_line digits
returns-in-Latency c = rw c.in-Latency.is c.format.ensures.ok

pub returns-in-Open : goal.returns-in-Open
unfolding refused_line digits
returns-in-Open c = rw c.in-Open.is c.from_str-in-Open.ensures.ok

pub returns-in-Memory : goal.returns-in-Memory
unfolding refused_line digits
returns-in-Memory c = rw c.in-Memory.is c.from_str-in-Memory.ensures.ok
