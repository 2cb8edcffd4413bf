use Rattle.convoy_ceiling.specs.Finding.{IsFound}
use Rattle.convoy_ceiling.proofs.seeking.TrafficSeeker.try_rivals.Given as goal

abbrev pub invariant-loop-rival : goal.invariant-loop-rival
invariant-loop-rival l = IsFound l.scenario l.self.found.traffic l.self.found.record
