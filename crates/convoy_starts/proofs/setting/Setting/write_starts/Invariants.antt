use Rattle.std.proofs.Common.{◌≡◌, ◌*◌, ◌-◌, ◌≤◌, length}
use Rattle.convoy_sure.specs.Windows.{tables_by}
use Rattle.convoy_starts.specs.Starts.{starts_before}
use Rattle.convoy_starts.specs.Mosts.{AreCurrent}
use Rattle.convoy_starts.specs.Changes.{AreCovered}
use Rattle.convoy_starts.proofs.setting.Setting.write_starts.Given as goal

abbrev pub invariant-loop-tick : goal.invariant-loop-tick
invariant-loop-tick l =
    let tables = tables_by l.self.windows.now in
    record {
      within : l.tick ≤ l.end;
      current : AreCurrent l.self.scenario.now tables.times l.self.sure.now l.self.bars.now l.starts.items l.tick l.memos.items;
      places : length l.memos.items ≡ length l.self.scenario.now.multicasts * 8;
      long : length l.nexts.items ≡ length l.pairs;
      covered : AreCovered l.self.scenario.now tables l.self.sure.now l.self.barring l.starts.items l.tick l.nexts.items l.pairs;
      so_far : l.starts.items ≡ starts_before l.self.scenario.now tables l.self.sure.now l.self.barring l.tick;
    }

abbrev pub decreases-loop-tick : goal.decreases-loop-tick
decreases-loop-tick l = l.end - l.tick
