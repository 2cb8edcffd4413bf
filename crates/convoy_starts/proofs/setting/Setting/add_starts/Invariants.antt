use Rattle.std.proofs.Common.{◌≡◌, ℕ, ◌<◌, get_or, fold, take}
use Rattle.convoy_sure.specs.Windows.{tables_by}
use Rattle.convoy_starts.specs.Starts.{add_start}
use Rattle.convoy_starts.specs.Mosts.{AreCurrent}
use Rattle.convoy_starts.specs.Changes.{AreCovered}
use Rattle.convoy_starts.proofs.setting.Setting.add_starts.Given as goal

abbrev pub invariant-loop-k : goal.invariant-loop-k
invariant-loop-k l =
    let tables = tables_by l.self.windows.now in
    record {
      current : AreCurrent l.self.scenario.now tables.times l.self.sure.now l.self.bars.now l.starts.items l.tick l.memos;
      covered : AreCovered l.self.scenario.now tables l.self.sure.now l.self.barring l.starts.items l.tick l.nexts l.pairs;
      past : (j : ℕ) → j < l.k → l.tick < get_or l.nexts j 0;
      so_far : l.starts.items ≡ fold (add_start l.self.scenario.now tables l.self.sure.now l.self.barring l.tick) l.initial.starts.items (take l.k l.pairs);
    }
