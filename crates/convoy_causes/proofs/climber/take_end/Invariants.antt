use Rattle.convoy_packets.specs.Assignment.{IsAssignment}
use Rattle.convoy_causes.proofs.climber.take_end.Given as goal

abbrev pub invariant-loop-i : goal.invariant-loop-i
invariant-loop-i l = IsAssignment l.instance l.schedule
