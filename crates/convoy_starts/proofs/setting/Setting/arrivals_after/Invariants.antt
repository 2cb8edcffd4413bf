use Rattle.std.proofs.Common.{◌≡◌, ◌≤◌, ◌==◌, ◌&&◌, not, length, filter, take}
use Rattle.convoy_sure.specs.Windows.{tables_by}
use Rattle.convoy_starts.specs.Starts.{may_arrive}
use Rattle.convoy_starts.proofs.setting.Setting.arrivals_after.Given as goal

abbrev pub invariant-loop-z : goal.invariant-loop-z
invariant-loop-z l =
    record {
      so_far : l.arrivals ≡ filter (λ z. may_arrive l.self.scenario.now.time (tables_by l.self.windows.now).times l.tick l.q l.group l.since z
          && not (z == l.start.message)) (take l.z-index l.z-items);
      few : length l.arrivals ≤ l.z-index;
    }
