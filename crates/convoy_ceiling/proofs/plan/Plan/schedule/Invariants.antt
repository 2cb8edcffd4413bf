use Rattle.convoy_packets.specs.Assignment.{IsAssignment}
use Rattle.convoy_ceiling.proofs.plan.Plan.schedule.Given as goal

abbrev pub invariant-loop-i : goal.invariant-loop-i
invariant-loop-i l = IsAssignment l.traffic l.schedule
