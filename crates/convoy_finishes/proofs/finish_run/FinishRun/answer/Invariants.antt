use Rattle.std.proofs.Common.{◌≡◌, ◌+◌, map, take}
use Rattle.convoy_sim.specs.Times.{arrive, greatest}
use Rattle.convoy_finishes.specs.Finishes.{way_at}
use Rattle.convoy_finishes.proofs.finish_run.FinishRun.answer.Given as goal

abbrev pub invariant-loop-group : goal.invariant-loop-group
invariant-loop-group l =
    l.last ≡ greatest (map (λ k. arrive l.self.scenario l.self.schedule l.message k + way_at l.self.ways l.message k) (take l.group-index l.group-items))
