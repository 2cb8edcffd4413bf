use Rattle.convoy_packets.specs.Assignment.{IsAssignment}
use Rattle.convoy_seek.proofs.moves.change_delays.Given as goal

abbrev pub invariant-loop : goal.invariant-loop
invariant-loop l = IsAssignment l.instance l.schedule
