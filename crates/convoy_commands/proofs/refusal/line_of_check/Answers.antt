use Rattle.std.proofs.Common.{append_assoc}
use Rattle.std.specs.Fmt.{digits}
use Rattle.convoy_commands.specs.Refusals.{refused_line}
use Rattle.convoy_commands.proofs.refusal.line_of_check.Goals as goal

pub returns-in-Latency : goal.returns-in-Latency
unfolding refused_line digits
returns-in-Latency c = rw c.in-Latency.is c.format.ensures.ok

pub returns-in-Split : goal.returns-in-Split
unfolding refused_line digits
returns-in-Split c = rw c.in-Split.is c.format-in-Split.ensures.ok

pub returns-in-TreeCount : goal.returns-in-TreeCount
unfolding refused_line digits
returns-in-TreeCount c = rw c.in-TreeCount.is c.from_str.ensures.ok

pub returns-in-BoundLeaf : goal.returns-in-BoundLeaf
unfolding refused_line digits
returns-in-BoundLeaf c = simp (c.in-BoundLeaf.is, append_assoc) c.format-in-BoundLeaf.ensures.ok

pub returns-in-PointLeaf : goal.returns-in-PointLeaf
unfolding refused_line digits
returns-in-PointLeaf c = rw c.in-PointLeaf.is c.format-in-PointLeaf.ensures.ok

pub returns-in-StampLeaf : goal.returns-in-StampLeaf
unfolding refused_line digits
returns-in-StampLeaf c = simp (c.in-StampLeaf.is, append_assoc) c.format-in-StampLeaf.ensures.ok

pub returns-in-LeadLeaf : goal.returns-in-LeadLeaf
unfolding refused_line digits
returns-in-LeadLeaf c = rw c.in-LeadLeaf.is c.format-in-LeadLeaf.ensures.ok

pub returns-in-Memory : goal.returns-in-Memory
unfolding refused_line digits
returns-in-Memory c = rw c.in-Memory.is c.from_str-in-Memory.ensures.ok
