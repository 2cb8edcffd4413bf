use Rattle.std.specs.Fmt.{digits}
use Rattle.convoy_commands.specs.Refusals.{refused_line}
use Rattle.convoy_workflow_checker.proofs.refusal_lines.line_of_check.Goals as goal

pub returns-in-Tree : goal.returns-in-Tree
unfolding refused_line digits
returns-in-Tree c = rw c.in-Tree.is c.from_str.ensures.ok

pub returns-in-Cause : goal.returns-in-Cause
unfolding refused_line digits
returns-in-Cause c = rw c.in-Cause.is c.format.ensures.ok

pub returns-in-Origin : goal.returns-in-Origin
unfolding refused_line digits
returns-in-Origin c = rw c.in-Origin.is c.from_str-in-Origin.ensures.ok

pub returns-in-Followed : goal.returns-in-Followed
unfolding refused_line digits
returns-in-Followed c = rw c.in-Followed.is c.format-in-Followed.ensures.ok

pub returns-in-Time : goal.returns-in-Time
unfolding refused_line digits
returns-in-Time c = rw c.in-Time.is c.format-in-Time.ensures.ok

pub returns-in-Open : goal.returns-in-Open
unfolding refused_line digits
returns-in-Open c = rw c.in-Open.is c.from_str-in-Open.ensures.ok

pub returns-in-Memory : goal.returns-in-Memory
unfolding refused_line digits
returns-in-Memory c = rw c.in-Memory.is c.from_str-in-Memory.ensures.ok
