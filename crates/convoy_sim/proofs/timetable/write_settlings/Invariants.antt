use Rattle.convoy_sim.specs.Times.{settle}
use Rattle.convoy_sim.specs.Places.{IsRow, AreOthersKept}
use Rattle.convoy_sim.proofs.timetable.write_settlings.Given as goal

abbrev pub invariant-loop-group : goal.invariant-loop-group
invariant-loop-group l = record {
  row : IsRow (settle l.times.scenario l.times.schedule l.message) l.group l.message l.settlings;
  others : AreOthersKept l.message l.initial.settlings l.settlings;
}
