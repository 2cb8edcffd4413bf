use Rattle.std.proofs.Common.{◌≡◌, ℕ, ◌<◌, false, length, get_or}
use Rattle.convoy_stamps.specs.declared.pair.Pair.{Pair}
use Rattle.convoy_sure.specs.Windows.{tables_by}
use Rattle.convoy_starts.specs.Starts.{may_commit}
use Rattle.convoy_starts.proofs.setting.Setting.write_first_commits.Given as goal

abbrev pub invariant-loop-pair : goal.invariant-loop-pair
invariant-loop-pair l =
    record {
      long : length l.nexts.items ≡ l.pair-index;
      idle : (k : ℕ) (pair : Pair) (tick : ℕ) → k < l.pair-index → tick < get_or l.nexts.items k 0
          → may_commit l.self.scenario.now (tables_by l.self.windows.now).times tick (get_or l.pairs k pair) ≡ false;
    }
