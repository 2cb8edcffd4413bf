use Rattle.std.proofs.Common.{◌≡◌, map, max, drop}
use Rattle.std.specs.List.{fold}
use Rattle.convoy_sim.specs.Moments.{commit_rank, rank_then}
use Rattle.convoy_sim.proofs.timetable.TimetableTicks.commit_rank.Given as goal

-- the greatest of the ranks that were read and of those that are left is the rank of the commit
abbrev pub invariant-loop-from : goal.invariant-loop-from
invariant-loop-from l =
    fold max l.rank (map (rank_then l.self.scenario l.self.schedule l.message l.tick) (drop l.from-index l.from-items))
    ≡ commit_rank l.self.scenario l.self.schedule l.message l.group
