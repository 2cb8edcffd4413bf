use Rattle.convoy_packets.specs.Assignment.{IsAssignment}
use Rattle.convoy_finishes.proofs.starts.lay_late.Given as goal

abbrev pub invariant-loop-message : goal.invariant-loop-message
invariant-loop-message l = IsAssignment l.instance l.schedule
