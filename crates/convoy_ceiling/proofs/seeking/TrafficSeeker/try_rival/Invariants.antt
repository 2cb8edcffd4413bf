use Rattle.convoy_ceiling.specs.Finding.{IsFound}
use Rattle.convoy_ceiling.proofs.seeking.TrafficSeeker.try_rival.Given as goal

abbrev pub invariant-loop-via : goal.invariant-loop-via
invariant-loop-via l = IsFound l.scenario l.self.found.traffic l.self.found.record
