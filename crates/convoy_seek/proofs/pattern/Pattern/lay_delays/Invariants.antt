use Rattle.convoy_packets.specs.Assignment.{IsAssignment}
use Rattle.convoy_seek.proofs.pattern.Pattern.lay_delays.Given as goal

abbrev pub invariant-loop-i : goal.invariant-loop-i
invariant-loop-i l = IsAssignment l.instance l.schedule
