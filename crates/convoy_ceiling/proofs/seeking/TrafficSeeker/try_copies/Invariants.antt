use Rattle.convoy_ceiling.specs.Finding.{IsFound}
use Rattle.convoy_ceiling.proofs.seeking.TrafficSeeker.try_copies.Given as goal

abbrev pub invariant-loop-copies : goal.invariant-loop-copies
invariant-loop-copies l = IsFound l.scenario l.self.found.traffic l.self.found.record
