use Rattle.std.proofs.Common.{◌≡◌, ◌≤◌, ◌+◌, map, take}
use Rattle.convoy_sim.specs.Times.{greatest}
use Rattle.convoy_sure.specs.Windows.{tables_by}
use Rattle.convoy_finishes.specs.FinishClosing.{longest_way}
use Rattle.convoy_finishes.proofs.finish_test.FinishTest.greatest_finish.Given as goal

abbrev pub invariant-loop-group : goal.invariant-loop-group
invariant-loop-group l =
    let windows = l.self.leads.windows in
    record {
      value : l.last ≡ greatest (map (λ k. (tables_by windows).times.greatest_arrival l.message k + longest_way l.self.instance.now windows l.self.ways.now l.message k) (take l.group-index l.group-items));
      fits : l.last ≤ 1262140;
    }
