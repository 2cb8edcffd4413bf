use Rattle.std.proofs.Common.{◌≡◌, map, max, drop}
use Rattle.std.specs.List.{fold}
use Rattle.convoy_sim.specs.Times.{propose_arrive, settle}
use Rattle.convoy_sim.proofs.timetable.settling.Given as goal

-- the greatest of what has come and what is left is the greatest of all
abbrev pub invariant-loop-from : goal.invariant-loop-from
invariant-loop-from l =
    fold max l.last (map (propose_arrive l.times.scenario l.times.schedule l.message l.group) (drop l.from-index l.from-items))
    ≡ settle l.times.scenario l.times.schedule l.message l.group
