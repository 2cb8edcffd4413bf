use Rattle.convoy_sim.specs.Times.{arrive}
use Rattle.convoy_sim.specs.Places.{IsRow, AreOthersKept}
use Rattle.convoy_sim.proofs.timetable.write_arrivals.Given as goal

abbrev pub invariant-loop-group : goal.invariant-loop-group
invariant-loop-group l = record {
  row : IsRow (arrive l.times.scenario l.times.schedule l.message) l.group l.message l.arrivals;
  others : AreOthersKept l.message l.initial.arrivals l.arrivals;
}
