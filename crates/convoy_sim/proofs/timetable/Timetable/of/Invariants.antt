use Rattle.std.proofs.Common.{length}
use Rattle.convoy_sim.specs.Times.{arrive, settle}
use Rattle.convoy_sim.specs.Places.{AreRows}
use Rattle.convoy_sim.proofs.timetable.Timetable.of.Given as goal

abbrev pub invariant-loop-message : goal.invariant-loop-message
invariant-loop-message l = record {
  arrivals : AreRows (arrive l.times.scenario l.times.schedule) l.message (length l.times.scenario.groups) l.arrivals;
  settlings : AreRows (settle l.times.scenario l.times.schedule) l.message (length l.times.scenario.groups) l.settlings;
}
