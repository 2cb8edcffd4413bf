use Rattle.std.proofs.Common.{◌≡◌, map, take}
use Rattle.convoy_sim.specs.Times.{greatest}
use Rattle.convoy_sure.specs.SureLeads.{top_behind}
use Rattle.convoy_sure.specs.Windows.{tables_by}
use Rattle.convoy_sure.proofs.sure_leads.Scene.tops_behind.Given as goal

abbrev pub invariant-loop-y : goal.invariant-loop-y
invariant-loop-y l =
    l.most ≡ greatest (map (top_behind l.self.scenario.now (tables_by l.self.windows.now).times l.leads l.pair) (take l.y-index l.y-items))
