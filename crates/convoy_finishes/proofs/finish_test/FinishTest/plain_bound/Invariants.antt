use Rattle.std.proofs.Common.{◌≡◌, ◌∷◌, map, take}
use Rattle.convoy_sim.specs.Times.{greatest}
use Rattle.convoy_finishes.specs.FinishClosing.{greatest_finish}
use Rattle.convoy_finishes.proofs.finish_test.FinishTest.plain_bound.Given as goal

abbrev pub invariant-loop-rival : goal.invariant-loop-rival
invariant-loop-rival l =
    let scenario = l.self.instance.now in
    l.last ≡ greatest (map (greatest_finish scenario l.self.leads.windows l.self.ways.now) (scenario.target_message ∷ take l.rival-index l.rival-items))
