use Rattle.std.proofs.Common.{◌≡◌, ◌≤◌, map, take}
use Rattle.convoy_sim.specs.Times.{greatest}
use Rattle.convoy_sure.specs.Windows.{tables_by}
use Rattle.convoy_starts.proofs.setting.Setting.last_arrival.Given as goal

abbrev pub invariant-loop-group : goal.invariant-loop-group
invariant-loop-group l =
    record {
      so_far : l.last ≡ greatest (map ((tables_by l.self.windows.now).times.greatest_arrival l.target) (take l.group-index l.group-items));
      fits : l.last ≤ 1131070;
    }
