use Rattle.convoy_ceiling.specs.Finding.{IsFound}
use Rattle.convoy_ceiling.proofs.seeking.TrafficSeeker.try_group.Given as goal

abbrev pub invariant-loop-pusher : goal.invariant-loop-pusher
invariant-loop-pusher l = IsFound l.scenario l.self.found.traffic l.self.found.record
