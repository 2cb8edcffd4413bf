use Rattle.convoy_packets.specs.Assignment.{AreWithin, ranges_of}
use Rattle.convoy_fits.proofs.laying.lay.Given as goal

-- each delay is in its range
abbrev pub invariant-loop-at : goal.invariant-loop-at
invariant-loop-at l = AreWithin (ranges_of l.finer) l.schedule.delays
