use Rattle.std.proofs.Common.{◌≤◌}
use Rattle.convoy_packets.specs.Assignment.{IsAssignment}
use Rattle.convoy_causes.proofs.laying.issue_effects.Given as goal

abbrev pub invariant-loop-place : goal.invariant-loop-place
invariant-loop-place l = record {
  assignment : IsAssignment l.question.instance.now l.schedule;
  left : l.left ≤ l.fn.left;
}
