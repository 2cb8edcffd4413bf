use Rattle.std.proofs.Common.{◌≡◌, ℕ, ◌<◌, length, map, take, get_or}
use Rattle.convoy_sim.specs.Times.{greatest}
use Rattle.convoy_sure.specs.Windows.{tables_by}
use Rattle.convoy_starts.specs.Starts.{stamp_for}
use Rattle.convoy_starts.specs.Mosts.{AreCurrent}
use Rattle.convoy_starts.proofs.setting.Setting.raises_high.Given as goal

abbrev pub invariant-loop-from : goal.invariant-loop-from
invariant-loop-from l =
    let tables = tables_by l.self.windows.now in
    record {
      current : AreCurrent l.self.scenario.now tables.times l.self.sure.now l.self.bars.now l.starts l.tick l.memos;
      long : length l.mosts.items ≡ length l.self.bars.now;
      so_far : (k : ℕ) → k < length l.self.bars.now → get_or l.mosts.items k 0
          ≡ greatest (map (stamp_for l.self.scenario.now tables l.self.sure.now l.starts l.tick (get_or l.self.bars.now k 0) l.c l.group) (take l.from-index l.from-items));
    }
